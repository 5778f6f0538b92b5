-- The crossings are read from the last to the first: the chains stand for the funnel at the first portal of those that were read.
use Rattle.std.proofs.Common.{◌≡◌, ℕ, zero, suc, ◌+◌, ◌-◌, ◌<◌, ◌≤◌, List, [], ◌∷◌, ◌++◌, map, reverse, length, get_or, take, sym, refl, ap, ◌∙◌, subst, arith}
use Rattle.std.proofs.lemmas.List.{map-append, reverse-append}
use Rattle.algebra.specs.Number.{Number, quadratics, sign}
use Rattle.geometry.specs.Plane.{Point}
use Rattle.words.specs.declared.sorts.Crossing.{Crossing}
use Rattle.taut.specs.declared.Side.TheVariants.{Left}
use Rattle.taut.specs.Sleeve.{Portal as Passage}
use Rattle.taut.specs.Funnel.{funnel_at}
use Rattle.mesh.specs.Surface.{Surface}
use Rattle.walks.specs.Walks.{portal_of, portals}
use Rattle.funnel.specs.declared.Portal.{Portal}
use Rattle.funnel.specs.declared.Working.{Working}
use Rattle.funnel.specs.Corners.{portal_meant}
use Rattle.funnel.specs.Chains.{Stands, SameRoom, Widens}

-- a row that is read from its end: the newest element comes first
pub newest_first : {X Y : Type 0} (g : X → Y) (l : List X) (x : X) → reverse (map g (l ++ x ∷ [])) ≡ g x ∷ reverse (map g l)
newest_first g l x = ap reverse (map-append g l (x ∷ [])) ∙ reverse-append (map g l) (g x ∷ [])

parted : {X : Type 0} (w : List X) (k : ℕ) (none : X) → length w ≡ suc k → w ≡ take k w ++ get_or w k none ∷ []
parted [] k none e = absurd (omega arith)
parted (x ∷ []) zero none e = refl
parted (x ∷ y ∷ w) zero none e = absurd (omega arith)
parted (x ∷ w) (suc k) none e = ap (λ l. x ∷ l) (parted w k none (omega arith))

-- a row taken apart as what comes before its last element, and that element
pub but_last : {X : Type 0} (w : List X) (none : X) → 1 ≤ length w → w ≡ take (length w - 1) w ++ get_or w (length w - 1) none ∷ []
but_last w none some = parted w (length w - 1) none (omega arith)

module _ {P : Type 0} (at : P → Point) (f : Surface) where
  -- the chains stand for the funnel at the present portal, which is the first of these
  pub record At (e : Point) (n : ℕ) (row : List (Passage Number)) (present : Portal P) (d : Working P) : Type 0 where
    pub rest : List (Passage Number)
    pub parts : row ≡ portal_meant at present ∷ rest
    pub stands : Stands at e Left d n (funnel_at quadratics sign e (portal_meant at present) rest)

  module _ (q : Portal P) (d₀ : Working P) where
    pub record Reading (row : List Crossing) (present : Portal P) (d : Working P) : Type 0 where
      pub room : SameRoom d₀ d
      pub reads : (e : Point) (n : ℕ) (ps : List (Passage Number)) → n + length row < length d₀.slots.now → n + length row ≤ length d₀.places.now + 1
          → Stands at e Left d₀ n (funnel_at quadratics sign e (portal_meant at q) ps)
          → At e (n + length row) (portals f row ++ portal_meant at q ∷ ps) present d

    pub one_read : (row more : List Crossing) (c : Crossing) (before present : Portal P) (d d' : Working P) → more ≡ c ∷ row
        → portal_meant at before ≡ portal_of f c → Widens at before present d d' → SameRoom d d'
        → Reading row present d → Reading more before d'
    one_read row more c before present d d' eq is widens same h =
        subst (λ w. Reading w before d') (sym eq) (record {
          room = (same.0 ∙ h.room.0, same.1 ∙ h.room.1);
          reads = λ e n ps room fits s.
              let a = h.reads e n ps (omega arith) (omega arith) s in
              let wide = widens e (n + length row) (funnel_at quadratics sign e (portal_meant at present) a.rest) (omega (arith, h.room.0)) (omega (arith, h.room.1)) a.stands in
              record {
                rest = portal_meant at present ∷ a.rest;
                parts = (λ i. sym is i ∷ a.parts i);
                stands = subst (λ m. Stands at e Left d' m (funnel_at quadratics sign e (portal_meant at before) (portal_meant at present ∷ a.rest))) (omega arith) wide;
              };
        })
