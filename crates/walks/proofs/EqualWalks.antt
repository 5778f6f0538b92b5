-- Two reduced walks between the same terminals with the same taut string are equal (`equal_walks`). Otherwise they part after some common crossings (`parting`):
-- one of them ends there (`stops`), or they leave one triangle by two sides (`forks`); neither is possible where both strings have the same bends.
-- So walks have the same string exactly when they are homotopic (`same_class`).
use Rattle.std.proofs.Common.{◌≡◌, ◌⊎◌, List, [], ◌∷◌, ◌++◌, sym, refl, ap, ◌∙◌, subst, inl, inr, arith}
use Rattle.std.proofs.lemmas.List.{append-nil}
use Rattle.base.specs.declared.ids.TriangleId.{TriangleId}
use Rattle.base.specs.declared.ids.HalfEdgeId.{HalfEdgeId}
use Rattle.base.specs.Ids.{triangle_of, next, previous}
use Rattle.algebra.specs.Number.{Number, Positive, quadratics, sign}
use Rattle.geometry.specs.Plane.{Point}
use Rattle.words.specs.declared.sorts.Crossing.{Crossing}
use Rattle.words.specs.Sorts.{recrossed, same_crossing}
use Rattle.words.specs.Words.{Reduced, reduction}
use Rattle.words.proofs.EqualReductions.{equal_reductions, homotopic_from_reductions}
use Rattle.words.proofs.LawfulSorts.{crossing_lawful}
use Rattle.taut.specs.declared.Side.TheVariants.{Left, Right}
use Rattle.taut.specs.Sleeve.{veer}
use Rattle.taut.specs.TautString.{Bend}
use Rattle.taut.specs.Funnel.{funnel}
use Rattle.taut.specs.EqualBends.{last_portal, Fork, Strung}
use Rattle.taut.proofs.AtNumbers.{equal_bends_here}
use Rattle.mesh.specs.Surface.{Surface, spot}
use Rattle.mesh.specs.Sound.{Sound}
use Rattle.mesh.proofs.FanSteps.{some_same, previous_next}
use Rattle.walks.specs.Walks.{Walk, vertex_at, portal_of, portals, Inside, Joins, TautOf}
use Rattle.walks.specs.Laws.{EqualWalks, reduced_string, SameStringSameClass}
use Rattle.walks.proofs.TurnSigns.{◌⟶◌}
use Rattle.walks.proofs.Triangles.{corner_turns}
use Rattle.walks.proofs.Crossings.{Crossed, GoesOn, three_ways, keeps, goes_on_round}
use Rattle.walks.proofs.RunFans.{reduced_tail, crossed_next}
use Rattle.walks.proofs.Sleeves.{behind, sleeve_of, exactly_one}
use Rattle.walks.proofs.WalkParts.{left_within, walk_joins}
use Rattle.walks.proofs.OneFanOfMesh.{one_fan}

-- ---- where two walks part
abbrev Apart : List Crossing → List Crossing → Type 0
Apart [] [] = ⊥
Apart [] (d ∷ y) = Unit {0}
Apart (c ∷ x) [] = Unit {0}
Apart (c ∷ x) (d ∷ y) = (next d.left ≡ c.left) ⊎ (d.left ≡ next c.left)

abbrev Parted : List Crossing → List Crossing → Type 0
Parted w w' = (v : List Crossing) × (x : List Crossing) × (y : List Crossing) × (w ≡ v ++ x) × (w' ≡ v ++ y) × Apart x y

parting : (f : Surface) (t u : TriangleId) (w w' : List Crossing) → Walk f t w u → Walk f t w' u → (w ≡ w') ⊎ Parted w w'
parting f t u [] [] h k = inl refl
parting f t u [] (d ∷ y) h k = inr ([], [], d ∷ y, refl, refl, tt)
parting f t u (c ∷ x) [] h k = inr ([], c ∷ x, [], refl, refl, tt)
parting f t u (c ∷ x) (d ∷ y) h k = elim (three_ways d.left c.left (k.0 ∙ sym h.0)) [
  | inl same ↦
      let entered : d.entered ≡ c.entered = some_same k.1 (ap f.twin same ∙ h.1) in
      let one : d ≡ c = λ i. record { left = same i; entered = entered i } in
      elim (parting f (triangle_of c.entered) u x y h.2 (subst (λ z. Walk f (triangle_of z) y u) entered k.2)) [
        | inl rest ↦ inl (ap (λ z. z ∷ x) (sym one) ∙ ap (λ l. d ∷ l) rest)
        | inr p ↦ inr (c ∷ p.0, p.1, p.2, ap (λ l. c ∷ l) p.3, ap (λ z. z ∷ y) one ∙ ap (λ l. c ∷ l) p.4, p.5)
      ]
  | inr way ↦ inr ([], c ∷ x, d ∷ y, refl, refl, way)
]

-- ---- the two sides of a triangle
moves_on : (h : HalfEdgeId) → next h ≡ h → ⊥
moves_on h e = let q = ap (λ x. x.0) e in omega arith

sides : (d c₁ c₂ : Crossing) → next c₂.left ≡ c₁.left → GoesOn Left d c₁ ⊎ GoesOn Right d c₁ → GoesOn Left d c₂ ⊎ GoesOn Right d c₂ → GoesOn Left d c₁ × GoesOn Right d c₂
sides d c₁ c₂ joint (inl a) (inr b) = (a, b)
sides d c₁ c₂ joint (inl a) (inl b) = absurd (moves_on c₁.left (a ∙ sym b ∙ joint))
sides d c₁ c₂ joint (inr a) (inl b) = absurd (moves_on d.entered (sym a ∙ sym joint ∙ b))
sides d c₁ c₂ joint (inr a) (inr b) = absurd (moves_on c₂.left (joint ∙ a ∙ sym b))

abbrev last_crossing : Crossing → List Crossing → Crossing
last_crossing c [] = c
last_crossing c (d ∷ v) = last_crossing d v

module _ (f : Surface) (sound : Sound f) where
  portals_append : (v w : List Crossing) → portals f (v ++ w) ≡ portals f v ++ portals f w
  portals_append [] w = refl
  portals_append (c ∷ v) w = ap (λ ps. portal_of f c ∷ ps) (portals_append v w)

  last_of : (c : Crossing) (v : List Crossing) → portal_of f (last_crossing c v) ≡ last_portal (portal_of f c) (portals f v)
  last_of c [] = refl
  last_of c (d ∷ v) = last_of d v

  at_last : (u : TriangleId) (c : Crossing) (v x : List Crossing) → Crossed f c → Walk f (triangle_of c.entered) (v ++ x) u → Reduced recrossed (c ∷ (v ++ x))
      → Crossed f (last_crossing c v) × Walk f (triangle_of (last_crossing c v).entered) x u × Reduced recrossed (last_crossing c v ∷ x)
  at_last u c [] x k h r = (k, h, r)
  at_last u c (d ∷ v) x k h r = at_last u d v x (crossed_next f sound c d k h.0 h.1) h.2 (reduced_tail c (d ∷ (v ++ x)) r)

  module _ (t u : TriangleId) (s e : Point) (bs : List (Bend Number)) where
    first_crossed : (c : Crossing) (w : List Crossing) → Joins f t s (c ∷ w) u e → Crossed f c
    first_crossed c w j = record { has = left_within f sound.twins t c j.within j.walk.0; twin = j.walk.1 }

    strung : (w : List Crossing) → Joins f t s w u e → TautOf f s w e bs → Strung s (portals f w) e bs
    strung w j taut = ((sleeve_of f sound t u s e w j).0, taut)

    strung_on : (c : Crossing) (v x : List Crossing) → Joins f t s (c ∷ (v ++ x)) u e → TautOf f s (c ∷ (v ++ x)) e bs → Strung s (portal_of f c ∷ (portals f v ++ portals f x)) e bs
    strung_on c v x j taut = subst (λ ps. Strung s (portal_of f c ∷ ps) e bs) (portals_append v x) (strung (c ∷ (v ++ x)) j taut)

    -- ---- they leave one triangle by two sides
    forks : (v : List Crossing) (c₁ c₂ : Crossing) (w₁ w₂ : List Crossing) → next c₂.left ≡ c₁.left → Joins f t s (v ++ (c₁ ∷ w₁)) u e → TautOf f s (v ++ (c₁ ∷ w₁)) e bs
        → Joins f t s (v ++ (c₂ ∷ w₂)) u e → TautOf f s (v ++ (c₂ ∷ w₂)) e bs → ⊥
    forks [] c₁ c₂ w₁ w₂ joint j₁ one j₂ two =
        let k₁ = first_crossed c₁ w₁ j₁ in
        let k₂ = first_crossed c₂ w₂ j₂ in
        equal_bends_here.fork_at_start s e bs (portal_of f c₁) (portal_of f c₂) (portals f w₁) (portals f w₂) (ap (vertex_at f) (sym joint))
        (subst (λ g. Positive (veer quadratics Left (spot f c₁.left ⟶ spot f (next c₁.left)) (spot f c₁.left ⟶ spot f g))) (ap previous (sym joint) ∙ previous_next c₂.left) (corner_turns f sound c₁.left k₁.has Left))
        (one_fan f sound u e j₁.finish c₁ c₂ w₁ w₂ joint k₁ k₂ j₁.walk.2 j₂.walk.2 j₁.reduced j₂.reduced)
        (strung (c₁ ∷ w₁) j₁ one) (strung (c₂ ∷ w₂) j₂ two)
    forks (c ∷ v) c₁ c₂ w₁ w₂ joint j₁ one j₂ two =
        let d : Crossing = last_crossing c v in
        let l₁ = at_last u c v (c₁ ∷ w₁) (first_crossed c (v ++ (c₁ ∷ w₁)) j₁) j₁.walk.2 j₁.reduced in
        let l₂ = at_last u c v (c₂ ∷ w₂) (first_crossed c (v ++ (c₂ ∷ w₂)) j₂) j₂.walk.2 j₂.reduced in
        let k₁ = crossed_next f sound d c₁ l₁.0 l₁.1.0 l₁.1.1 in
        let k₂ = crossed_next f sound d c₂ l₂.0 l₂.1.0 l₂.1.1 in
        let way = sides d c₁ c₂ joint (goes_on_round f sound d c₁ w₁ l₁.0 l₁.1.0 l₁.1.1 l₁.2) (goes_on_round f sound d c₂ w₂ l₂.0 l₂.1.0 l₂.1.1 l₂.2) in
        let fork : Fork quadratics (portal_of f d) (portal_of f c₁) (portal_of f c₂) =
        record { first = keeps f sound Left d c₁ l₁.0 way.0; second = keeps f sound Right d c₂ l₂.0 way.1; shared = ap (vertex_at f) (sym joint) } in
        equal_bends_here.fork s e bs (portal_of f c) (portals f v) (portal_of f c₁) (portal_of f c₂) (portals f w₁) (portals f w₂)
        (subst (λ p. Fork quadratics p (portal_of f c₁) (portal_of f c₂)) (last_of c v) fork)
        (one_fan f sound u e j₁.finish c₁ c₂ w₁ w₂ joint k₁ k₂ l₁.1.2 l₂.1.2 (reduced_tail d (c₁ ∷ w₁) l₁.2) (reduced_tail d (c₂ ∷ w₂) l₂.2))
        (strung_on c v (c₁ ∷ w₁) j₁ one) (strung_on c v (c₂ ∷ w₂) j₂ two)

    -- ---- one of them ends where the other goes on
    stops : (v : List Crossing) (d : Crossing) (y : List Crossing) → Joins f t s (v ++ []) u e → TautOf f s (v ++ []) e bs → Joins f t s (v ++ (d ∷ y)) u e → TautOf f s (v ++ (d ∷ y)) e bs → ⊥
    stops [] d y j₁ one j₂ two =
        let there : Inside f (triangle_of d.left) e = subst (λ x. Inside f x e) (sym (j₂.walk.0 ∙ j₁.walk)) j₁.finish in
        equal_bends_here.stop_at_start s e (portal_of f d) (portals f y) (behind f sound d e there)
        (subst (λ b. Strung s (portals f (d ∷ y)) e b) ((exactly_one f sound t u s e [] j₁).1 bs one) (strung (d ∷ y) j₂ two))
    stops (c ∷ v) d y j₁ one j₂ two =
        let l₁ = at_last u c v [] (first_crossed c (v ++ []) j₁) j₁.walk.2 j₁.reduced in
        let l₂ = at_last u c v (d ∷ y) (first_crossed c (v ++ (d ∷ y)) j₂) j₂.walk.2 j₂.reduced in
        let there : Inside f (triangle_of d.left) e = subst (λ x. Inside f x e) (sym (l₂.1.0 ∙ l₁.1)) j₁.finish in
        equal_bends_here.stop s e bs (portal_of f c) (portals f v) (portal_of f d) (portals f y) (behind f sound d e there)
        (subst (λ l. Strung s (portal_of f c ∷ portals f l) e bs) (append-nil v) (strung (c ∷ (v ++ [])) j₁ one)) (strung_on c v (d ∷ y) j₂ two)

    never_apart : (v x y : List Crossing) → Apart x y → Joins f t s (v ++ x) u e → TautOf f s (v ++ x) e bs → Joins f t s (v ++ y) u e → TautOf f s (v ++ y) e bs → ⊥
    never_apart v [] [] a j₁ one j₂ two = a
    never_apart v [] (d ∷ y) a j₁ one j₂ two = stops v d y j₁ one j₂ two
    never_apart v (c ∷ x) [] a j₁ one j₂ two = stops v c x j₂ two j₁ one
    never_apart v (c ∷ x) (d ∷ y) (inl a) j₁ one j₂ two = forks v c d x y a j₁ one j₂ two
    never_apart v (c ∷ x) (d ∷ y) (inr a) j₁ one j₂ two = forks v d c y x (sym a) j₂ two j₁ one

pub equal_walks : EqualWalks
equal_walks f sound t u s e w w' j j' bs one two = elim (parting f t u w w' j.walk j'.walk) [
  | inl same ↦ same
  | inr p ↦ absurd (never_apart f sound t u s e bs p.0 p.1 p.2 p.5
      (subst (λ l. Joins f t s l u e) p.3 j) (subst (λ l. TautOf f s l e bs) p.3 one)
      (subst (λ l. Joins f t s l u e) p.4 j') (subst (λ l. TautOf f s l e bs) p.4 two))
]

pub same_class : SameStringSameClass
same_class f sound t u s e v v' within start finish walk walk' =
    let r : List Crossing = reduction recrossed same_crossing v in
    let r' : List Crossing = reduction recrossed same_crossing v' in
    let j = walk_joins f t u s e v within start walk finish in
    let j' = walk_joins f t u s e v' within start walk' finish in (
      (λ same. homotopic_from_reductions recrossed same_crossing crossing_lawful v v'
          (equal_walks f sound t u s e r r' j j' (reduced_string f s v' e) (subst (TautOf f s r e) same (exactly_one f sound t u s e r j).0) (exactly_one f sound t u s e r' j').0)),
      λ h. ap (λ w. funnel quadratics sign s (portals f w) e) (equal_reductions recrossed same_crossing crossing_lawful h),
    )
