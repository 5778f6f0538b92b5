-- A barred portal is boundary from both sides, every other twin stays, and one bar more is a layer more.
use Rattle.std.proofs.Common.{◌≡◌, Bool, true, false, cond, ◌||◌, eqb, List, [], ◌∷◌, ◌++◌, Some, None, Option, sym, refl, ap, ◌∙◌, ap₂}
use mathlib.Core.Bool.{or-true}
use Rattle.base.specs.declared.ids.HalfEdgeId.{HalfEdgeId}
use Rattle.surfaces.specs.Layers.{among, unless_barred, barred}
use Rattle.surfaces.specs.Laws.{BarsBothSides, BarredAgain}
use Rattle.surfaces.proofs.LayerTwins.{twin_twins}

or_assoc : (a b c : Bool) → ((a || b) || c) ≡ (a || (b || c))
or_assoc true b c = refl
or_assoc false b c = refl

among_append : (xs ys : List HalfEdgeId) (h : HalfEdgeId) → among (xs ++ ys) h ≡ (among xs h || among ys h)
among_append [] ys h = refl
among_append (x ∷ xs) ys h = ap (λ t. eqb x.0 h.0 || t) (among_append xs ys h) ∙ sym (or_assoc (eqb x.0 h.0) (among xs h) (among ys h))

or_nothing : (a : Bool) → (a || false) ≡ a
or_nothing true = refl
or_nothing false = refl

-- ---- what a bar does
pub bars_both_sides : BarsBothSides
bars_both_sides f w bars h d t = (hidden, shown)
  where
    back : f.twin d ≡ Some h
    back = (twin_twins f w h d t).back

    hidden : (among bars h || among bars d) ≡ true → ((barred bars f).twin h ≡ None) × ((barred bars f).twin d ≡ None)
    hidden e =
        (ap (unless_barred bars h) t ∙ ap (λ b. cond b None (Some d)) e, ap (unless_barred bars d) back ∙ ap (λ b. cond b None (Some h)) (turned (among bars h) (among bars d) e))
      where
        turned : (a b : Bool) → (a || b) ≡ true → (b || a) ≡ true
        turned true true e = e
        turned true false e = e
        turned false true e = e
        turned false false e = e

    shown : (among bars h || among bars d) ≡ false → (barred bars f).twin h ≡ Some d
    shown e = ap (unless_barred bars h) t ∙ ap (λ b. cond b None (Some d)) e

-- one more bar is a layer of its own
pub barred_again : BarredAgain
barred_again bars b f = record {
  triangles = refl;
  vertices = refl;
  corner = λ h. refl;
  point = λ v. refl;
  twin = λ h. again h (f.twin h);
}
  where
    again : (h : HalfEdgeId) (o : Option HalfEdgeId) → unless_barred (bars ++ b ∷ []) h o ≡ unless_barred (b ∷ []) h (unless_barred bars h o)
    again h None = refl
    again h (Some d) =
        ap₂ (λ s t. cond (s || t) None (Some d)) (among_append bars (b ∷ []) h) (among_append bars (b ∷ []) d)
        ∙ by_tests (among bars h) (among bars d)
      where
        by_tests : (x y : Bool) → cond ((x || among (b ∷ []) h) || (y || among (b ∷ []) d)) None (Some d) ≡ unless_barred (b ∷ []) h (cond (x || y) None (Some d))
        by_tests true y = refl
        by_tests false true = ap (λ t. cond t None (Some d)) (or-true (among (b ∷ []) h))
        by_tests false false = refl
