-- The laws of the taut string, at the numbers p + q√2.
-- Shortness     every path through the portals of a sleeve measures, under every gauge, at least D times what its taut string measures
-- Shortcut      a way that leaves out one of its points, other than the first and the last, measures no more under any gauge
-- Existence     every sleeve whose runs make fans has a taut string: the bends that the funnel on lists finds
-- Uniqueness    a sleeve has at most one taut string, whatever indices witness it
-- FanOrder      a direction, its opposite and the direction again are not met in order in a fan
-- FanParts      a part of a fan is a fan; a fan read from its other end is one, to the other side; so is a fan whose first or last ray is moved inward
-- PortalOrder   a place on a portal is never in front of the next portal, and lies on its line only at the end that both share
use Rattle.std.specs.Prelude.{◌≡◌, ℕ, ◌≤◌, List, [], ◌∷◌, ◌++◌, reverse}
use Rattle.algebra.specs.Number.{Number, Positive, sign, ◌⊛◌, quadratics}
use Rattle.algebra.specs.Order.{AtMost}
use Rattle.algebra.specs.Plane.{Vec}
use Rattle.taut.specs.declared.Side.{Side}
use Rattle.taut.specs.Sleeve.{other, Portal, end, veer, Front, OnLine, Keeps, Sleeve}
use Rattle.taut.specs.Fan.{Sector, Met, Fan, FanBound, origin, opposite}
use Rattle.taut.specs.TautString.{Bend, corners, TautString}
use Rattle.taut.specs.Lengths.{Gauge, along, whole, times_over, place, magnified, Marks, places}
use Rattle.taut.specs.Funnel.{funnel}

abbrev pub Point : Type 0
Point = Vec Number

-- what the string over these bends measures, and what the path over these marks
abbrev pub string_length : (Point → Number) → Point → List (Bend Number) → Point → Number
string_length measure s bs e = along quadratics measure s (corners quadratics bs ++ (e ∷ []))

abbrev pub path_length : (Point → Number) → ℕ → Point → List (Portal Number) → List ℕ → Point → Number
path_length measure D s ps js e = along quadratics measure (times_over quadratics D s) (places quadratics D ps js ++ (times_over quadratics D e ∷ []))

abbrev pub Shortness : Type 0
Shortness =
    (fs : List (Vec Number)) (measure : Vec Number → Number) → Gauge quadratics fs measure
    → (s e : Point) (ps : List (Portal Number)) (bs : List (Bend Number)) → Sleeve quadratics s ps e → TautString quadratics s ps e bs
    → (D : ℕ) (js : List ℕ) → Marks quadratics D ps js → AtMost (whole quadratics D ⊛ string_length measure s bs e) (path_length measure D s ps js e)

abbrev pub Shortcut : Type 0
Shortcut =
    (fs : List (Vec Number)) (measure : Vec Number → Number) → Gauge quadratics fs measure → (x : Point) (ys : List Point) (z y : Point) (zs : List Point)
    → AtMost (along quadratics measure x (ys ++ (y ∷ zs))) (along quadratics measure x (ys ++ (z ∷ y ∷ zs)))

abbrev pub Existence : Type 0
Existence =
    (s e : Point) (ps : List (Portal Number)) → Sleeve quadratics s ps e → FanBound quadratics s ps e
    → TautString quadratics s ps e (funnel quadratics sign s ps e)

abbrev pub Uniqueness : Type 0
Uniqueness =
    (s e : Point) (ps : List (Portal Number)) (bs bs' : List (Bend Number)) → Sleeve quadratics s ps e → TautString quadratics s ps e bs
    → TautString quadratics s ps e bs' → bs ≡ bs'

abbrev pub FanOrder : Type 0
FanOrder =
    (t : Side) (u h : Vec Number) (rs : List (Vec Number)) → ¬ (u ≡ origin quadratics) → Fan quadratics t (h ∷ rs)
    → ¬ (Met quadratics t (u ∷ opposite quadratics u ∷ u ∷ []) h rs)

pub record FanParts : Type 0 where
  pub part : (t : Side) (xs ys zs : List (Vec Number)) → Fan quadratics t (xs ++ (ys ++ zs)) → Fan quadratics t ys
  pub turned_about : (t : Side) (rs : List (Vec Number)) → Fan quadratics t rs → Fan quadratics (other t) (reverse rs)
  pub first_inward : (t : Side) (h h' r : Vec Number) (rs : List (Vec Number)) → Fan quadratics t (h ∷ r ∷ rs) → Sector quadratics t h' h r
      → Positive (veer quadratics t h' r) → Fan quadratics t (h' ∷ r ∷ rs)
  pub last_inward : (t : Side) (rs : List (Vec Number)) (r l l' : Vec Number) → Fan quadratics t (rs ++ (r ∷ l ∷ [])) → Sector quadratics t l' r l
      → Positive (veer quadratics t r l') → Fan quadratics t (rs ++ (r ∷ l' ∷ []))

abbrev pub PortalOrder : Type 0
PortalOrder =
    (t : Side) (p q : Portal Number) → Keeps quadratics t p q → (D j : ℕ) → j ≤ D
    → (¬ (Front quadratics (magnified quadratics D q) (place quadratics D p j))) × (OnLine quadratics (magnified quadratics D q) (place quadratics D p j) → place quadratics D p j ≡ times_over quadratics D (end t p).point)
