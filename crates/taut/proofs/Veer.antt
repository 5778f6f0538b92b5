-- Identities of `veer`, each once for both sides: the relations of Grassmann and Plücker in the shapes in which the signs of their terms are known,
-- and the same turn seen from another of its points. They rest on the ring solver alone.
use Rattle.std.proofs.Common.{◌≡◌, refl}
use Rattle.algebra.specs.Arithmetic.{Arithmetic}
use Rattle.algebra.specs.Plane.{Vec, less, ◌⊗◌, ◌⟶◌ as ◌⇢◌}
use Rattle.algebra.proofs.RingSolver.{CommRing, :0, ◌:+◌, ◌:-◌, ◌:*◌, :-◌, ◌:=◌, E}
use Rattle.algebra.proofs.OrderedRing.{OrderedRing, base}
use Rattle.algebra.proofs.PlaneSolver.{◌:×◌, ring_v}
use Rattle.taut.specs.declared.Side.{Side}
use Rattle.taut.specs.declared.Side.TheVariants.{Left, Right}
use Rattle.taut.specs.Sleeve.{other, veer}

module _ (K : OrderedRing) where
  abbrev N : Arithmetic
  N = K.numbers

  abbrev R : CommRing
  R = base K

  open N use {carrier as A}
  open N.ops use {nil as 𝟘, add as ◌+◌, mul as ◌*◌, neg as -◌}

  infixl 65 ◌+◌
  infixl 70 ◌*◌
  infix 75 -◌
  infix 73 ◌⟶◌
  abbrev ◌⟶◌ : Vec A → Vec A → Vec A
  v ⟶ w = ◌⇢◌ N v w

  pub swap : (t : Side) (a b : Vec A) → veer N (other t) a b ≡ veer N t b a
  swap Left a b = refl
  swap Right a b = refl

  -- ---- of steps
  pub back : (t : Side) (a b : Vec A) → - (veer N t a b) ≡ veer N t b a
  unfolding ◌⊗◌
  back Left = ring_v R 2 0 (λ a b. :- (a :× b) := b :× a) refl
  back Right = ring_v R 2 0 (λ a b. :- (b :× a) := a :× b) refl

  pub self : (t : Side) (a : Vec A) → veer N t a a ≡ 𝟘
  unfolding ◌⊗◌
  self Left = ring_v R 1 0 (λ a. a :× a := :0) refl
  self Right = ring_v R 1 0 (λ a. a :× a := :0) refl

  pub in_order : (t : Side) (h o r s : Vec A) → veer N t h o * veer N t r s + veer N t h s * veer N t o r ≡ veer N t h r * veer N t o s
  unfolding ◌⊗◌
  in_order Left = ring_v R 4 0 (λ h o r s. h :× o :* r :× s :+ h :× s :* o :× r := h :× r :* o :× s) refl
  in_order Right = ring_v R 4 0 (λ h o r s. o :× h :* s :× r :+ s :× h :* r :× o := r :× h :* s :× o) refl

  pub in_order' : (t : Side) (h u r s : Vec A) → veer N t u h * veer N t r s + veer N t s h * veer N t u r ≡ veer N t r h * veer N t u s
  unfolding ◌⊗◌
  in_order' Left = ring_v R 4 0 (λ h u r s. u :× h :* r :× s :+ s :× h :* u :× r := r :× h :* u :× s) refl
  in_order' Right = ring_v R 4 0 (λ h u r s. h :× u :* s :× r :+ h :× s :* r :× u := h :× r :* s :× u) refl

  pub aligned : (t : Side) (h u r s : Vec A) → veer N t s h * veer N t u r + veer N t h r * veer N t u s ≡ veer N t h u * veer N t r s
  unfolding ◌⊗◌
  aligned Left = ring_v R 4 0 (λ h u r s. s :× h :* u :× r :+ h :× r :* u :× s := h :× u :* r :× s) refl
  aligned Right = ring_v R 4 0 (λ h u r s. h :× s :* r :× u :+ r :× h :* s :× u := u :× h :* s :× r) refl

  pub pluecker : (t : Side) (g d d' k : Vec A) → veer N t g d' * veer N t d k + veer N t g d * veer N t k d' + veer N t g k * veer N t d' d ≡ 𝟘
  unfolding ◌⊗◌
  pluecker Left = ring_v R 4 0 (λ g d f k. g :× f :* d :× k :+ g :× d :* k :× f :+ g :× k :* f :× d := :0) refl
  pluecker Right = ring_v R 4 0 (λ g d f k. f :× g :* k :× d :+ d :× g :* f :× k :+ k :× g :* d :× f := :0) refl

  pub three : (t : Side) (h n o x : Vec A) → veer N t o h * veer N t x n + veer N t h x * veer N t o n + veer N t h n * veer N t x o ≡ 𝟘
  unfolding ◌⊗◌
  three Left = ring_v R 4 0 (λ h n o x. o :× h :* x :× n :+ h :× x :* o :× n :+ h :× n :* x :× o := :0) refl
  three Right = ring_v R 4 0 (λ h n o x. h :× o :* n :× x :+ x :× h :* n :× o :+ n :× h :* o :× x := :0) refl

  pub straight : (t : Side) (d f o z : Vec A) → veer N t o f * veer N t d z + veer N t d o * veer N t f z + veer N t z o * veer N t d f ≡ 𝟘
  unfolding ◌⊗◌
  straight Left = ring_v R 4 0 (λ d f o z. o :× f :* d :× z :+ d :× o :* f :× z :+ z :× o :* d :× f := :0) refl
  straight Right = ring_v R 4 0 (λ d f o z. f :× o :* z :× d :+ o :× d :* z :× f :+ o :× z :* f :× d := :0) refl

  pub between : (t s : Side) (a b d h : Vec A) → veer N t d b * veer N s a h + veer N t a d * veer N s b h ≡ veer N t a b * veer N s d h
  unfolding ◌⊗◌
  between Left Left = ring_v R 4 0 (λ a b d h. d :× b :* a :× h :+ a :× d :* b :× h := a :× b :* d :× h) refl
  between Left Right = ring_v R 4 0 (λ a b d h. d :× b :* h :× a :+ a :× d :* h :× b := a :× b :* h :× d) refl
  between Right Left = ring_v R 4 0 (λ a b d h. b :× d :* a :× h :+ d :× a :* b :× h := b :× a :* d :× h) refl
  between Right Right = ring_v R 4 0 (λ a b d h. b :× d :* h :× a :+ d :× a :* h :× b := b :× a :* h :× d) refl

  pub between_back : (s t : Side) (d h z k : Vec A) → veer N s h z * veer N t d k + veer N s d z * veer N t k h ≡ veer N s d h * veer N t k z
  unfolding ◌⊗◌
  between_back Left Left = ring_v R 4 0 (λ d h z k. h :× z :* d :× k :+ d :× z :* k :× h := d :× h :* k :× z) refl
  between_back Left Right = ring_v R 4 0 (λ d h z k. h :× z :* k :× d :+ d :× z :* h :× k := d :× h :* z :× k) refl
  between_back Right Left = ring_v R 4 0 (λ d h z k. z :× h :* d :× k :+ z :× d :* k :× h := h :× d :* k :× z) refl
  between_back Right Right = ring_v R 4 0 (λ d h z k. z :× h :* k :× d :+ z :× d :* h :× k := h :× d :* z :× k) refl

  pub between_flip : (s t : Side) (d h z k : Vec A) → veer N s h z * veer N t k d + veer N s d z * veer N t h k ≡ veer N s d h * veer N t z k
  unfolding ◌⊗◌
  between_flip Left Left = ring_v R 4 0 (λ d h z k. h :× z :* k :× d :+ d :× z :* h :× k := d :× h :* z :× k) refl
  between_flip Left Right = ring_v R 4 0 (λ d h z k. h :× z :* d :× k :+ d :× z :* k :× h := d :× h :* k :× z) refl
  between_flip Right Left = ring_v R 4 0 (λ d h z k. z :× h :* k :× d :+ z :× d :* h :× k := h :× d :* z :× k) refl
  between_flip Right Right = ring_v R 4 0 (λ d h z k. z :× h :* d :× k :+ z :× d :* k :× h := h :× d :* k :× z) refl

  pub six_terms : (t : Side) (z a n o x : Vec A) → veer N t z a * (veer N t n o + veer N t o x + veer N t x n) + veer N t z a * veer N t o n + veer N t o a * veer N t x z + veer N t o z * veer N t a x + veer N t a x * veer N t z n + veer N t x z * veer N t a n ≡ 𝟘
  unfolding ◌⊗◌
  six_terms Left = ring_v R 5 0 (λ z a n o x. z :× a :* (n :× o :+ o :× x :+ x :× n) :+ z :× a :* o :× n :+ o :× a :* x :× z :+ o :× z :* a :× x :+ a :× x :* z :× n :+ x :× z :* a :× n := :0) refl
  six_terms Right = ring_v R 5 0 (λ z a n o x. a :× z :* (o :× n :+ x :× o :+ n :× x) :+ a :× z :* n :× o :+ a :× o :* z :× x :+ z :× o :* x :× a :+ x :× a :* n :× z :+ z :× x :* n :× a := :0) refl

  pub bent_front : (t : Side) (g x c k : Vec A) → veer N t g x * veer N t c k + veer N t g c * (veer N t g k + veer N t x g + veer N t k x) + veer N t g c * veer N t g x + veer N t g c * veer N t k g + veer N t k g * veer N t c x ≡ 𝟘
  unfolding ◌⊗◌
  bent_front Left = ring_v R 4 0 (λ g x c k. g :× x :* c :× k :+ g :× c :* (g :× k :+ x :× g :+ k :× x) :+ g :× c :* g :× x :+ g :× c :* k :× g :+ k :× g :* c :× x := :0) refl
  bent_front Right = ring_v R 4 0 (λ g x c k. x :× g :* k :× c :+ c :× g :* (k :× g :+ g :× x :+ x :× k) :+ c :× g :* x :× g :+ c :× g :* g :× k :+ g :× k :* x :× c := :0) refl

  -- ---- of points
  pub still : (t : Side) (v z : Vec A) → veer N t (v ⟶ v) z ≡ 𝟘
  unfolding ◌⊗◌ ◌⇢◌
  still Left = ring_v R 2 0 (λ v z. less E v v :× z := :0) refl
  still Right = ring_v R 2 0 (λ v z. z :× less E v v := :0) refl

  pub to_head : (t : Side) (u w l : Vec A) → veer N t (u ⟶ w) (u ⟶ l) ≡ veer N (other t) (u ⟶ w) (l ⟶ w)
  unfolding ◌⊗◌ ◌⇢◌
  to_head Left = ring_v R 3 0 (λ u w l. less E w u :× less E l u := less E w l :× less E w u) refl
  to_head Right = ring_v R 3 0 (λ u w l. less E l u :× less E w u := less E w u :× less E w l) refl

  pub to_tail : (t : Side) (u w l : Vec A) → veer N t (u ⟶ w) (u ⟶ l) ≡ veer N (other t) (u ⟶ w) (l ⟶ u)
  unfolding ◌⊗◌ ◌⇢◌
  to_tail Left = ring_v R 3 0 (λ u w l. less E w u :× less E l u := less E u l :× less E w u) refl
  to_tail Right = ring_v R 3 0 (λ u w l. less E l u :× less E w u := less E w u :× less E u l) refl

  pub from_head : (t : Side) (v w z : Vec A) → veer N t (v ⟶ w) (v ⟶ z) ≡ veer N t (v ⟶ w) (w ⟶ z)
  unfolding ◌⊗◌ ◌⇢◌
  from_head Left = ring_v R 3 0 (λ v w z. less E w v :× less E z v := less E w v :× less E z w) refl
  from_head Right = ring_v R 3 0 (λ v w z. less E z v :× less E w v := less E z w :× less E w v) refl

  pub to_foot : (t : Side) (v c z : Vec A) → veer N t (v ⟶ z) (v ⟶ c) ≡ veer N t (c ⟶ z) (v ⟶ c)
  unfolding ◌⊗◌ ◌⇢◌
  to_foot Left = ring_v R 3 0 (λ v c z. less E z v :× less E c v := less E z c :× less E c v) refl
  to_foot Right = ring_v R 3 0 (λ v c z. less E c v :× less E z v := less E c v :× less E z c) refl

  pub cyc : (t : Side) (a b c : Vec A) → veer N t (a ⟶ b) (a ⟶ c) ≡ veer N t (b ⟶ c) (b ⟶ a)
  unfolding ◌⊗◌ ◌⇢◌
  cyc Left = ring_v R 3 0 (λ a b c. less E b a :× less E c a := less E c b :× less E a b) refl
  cyc Right = ring_v R 3 0 (λ a b c. less E c a :× less E b a := less E a b :× less E c b) refl

  pub from_apex : (s : Side) (y r v : Vec A) → veer N s (y ⟶ r) (y ⟶ v) ≡ veer N s (v ⟶ y) (v ⟶ r)
  unfolding ◌⊗◌ ◌⇢◌
  from_apex Left = ring_v R 3 0 (λ y r v. less E r y :× less E v y := less E y v :× less E r v) refl
  from_apex Right = ring_v R 3 0 (λ y r v. less E v y :× less E r y := less E r v :× less E y v) refl

  pub to_apex : (s : Side) (y r v : Vec A) → veer N s (y ⟶ r) (y ⟶ v) ≡ veer N s (y ⟶ v) (r ⟶ v)
  unfolding ◌⊗◌ ◌⇢◌
  to_apex Left = ring_v R 3 0 (λ y r v. less E r y :× less E v y := less E v y :× less E v r) refl
  to_apex Right = ring_v R 3 0 (λ y r v. less E v y :× less E r y := less E v r :× less E v y) refl

  pub about : (s : Side) (r v o : Vec A) → veer N s (r ⟶ v) o ≡ veer N s o (v ⟶ r)
  unfolding ◌⊗◌ ◌⇢◌
  about Left = ring_v R 3 0 (λ r v o. less E v r :× o := o :× less E r v) refl
  about Right = ring_v R 3 0 (λ r v o. o :× less E v r := less E r v :× o) refl

  pub turned_back : (t : Side) (a c n : Vec A) → veer N (other t) a (c ⟶ n) ≡ veer N t a (n ⟶ c)
  unfolding ◌⊗◌ ◌⇢◌
  turned_back Left = ring_v R 3 0 (λ a c n. less E n c :× a := a :× less E c n) refl
  turned_back Right = ring_v R 3 0 (λ a c n. a :× less E n c := less E c n :× a) refl

  pub popped : (t : Side) (x u c : Vec A) → - (veer N t (x ⟶ u) (u ⟶ c)) ≡ veer N t (u ⟶ c) (x ⟶ c)
  unfolding ◌⊗◌ ◌⇢◌
  popped Left = ring_v R 3 0 (λ x u c. :- (less E u x :× less E c u) := less E c u :× less E c x) refl
  popped Right = ring_v R 3 0 (λ x u c. :- (less E c u :× less E u x) := less E c x :× less E c u) refl

  pub oppose : (t : Side) (v w y : Vec A) → veer N t (v ⟶ w) (w ⟶ y) ≡ - (veer N (other t) (v ⟶ w) (v ⟶ y))
  unfolding ◌⊗◌ ◌⇢◌
  oppose Left = ring_v R 3 0 (λ v w y. less E w v :× less E y w := :- (less E y v :× less E w v)) refl
  oppose Right = ring_v R 3 0 (λ v w y. less E y w :× less E w v := :- (less E w v :× less E y v)) refl

  pub at_head : (t : Side) (v w : Vec A) → veer N t (v ⟶ w) (w ⟶ w) ≡ 𝟘
  unfolding ◌⊗◌ ◌⇢◌
  at_head Left = ring_v R 2 0 (λ v w. less E w v :× less E w w := :0) refl
  at_head Right = ring_v R 2 0 (λ v w. less E w w :× less E w v := :0) refl

  pub thrust : (t : Side) (n o d : Vec A) → veer N (other t) n o + veer N (other t) o d + veer N (other t) d n + veer N (other t) o n ≡ veer N t d (n ⟶ o)
  unfolding ◌⊗◌ ◌⇢◌
  thrust Left = ring_v R 3 0 (λ n o d. o :× n :+ d :× o :+ n :× d :+ n :× o := d :× less E o n) refl
  thrust Right = ring_v R 3 0 (λ n o d. n :× o :+ o :× d :+ d :× n :+ o :× n := less E o n :× d) refl

  pub across_portal : (t : Side) (n o a : Vec A) → veer N (other t) a n + veer N (other t) o a ≡ veer N t a (n ⟶ o)
  unfolding ◌⊗◌ ◌⇢◌
  across_portal Left = ring_v R 3 0 (λ n o a. n :× a :+ a :× o := a :× less E o n) refl
  across_portal Right = ring_v R 3 0 (λ n o a. a :× n :+ o :× a := less E o n :× a) refl

  pub past_line : (t : Side) (v w o z : Vec A) → veer N t (v ⟶ w) (v ⟶ z) + veer N t (v ⟶ o) (v ⟶ w) ≡ veer N t (v ⟶ w) (o ⟶ z)
  unfolding ◌⊗◌ ◌⇢◌
  past_line Left = ring_v R 4 0 (λ v w o z. less E w v :× less E z v :+ less E o v :× less E w v := less E w v :× less E z o) refl
  past_line Right = ring_v R 4 0 (λ v w o z. less E z v :× less E w v :+ less E w v :× less E o v := less E z o :× less E w v) refl

  pub cross_sum : (t : Side) (x f o : Vec A) (d : Vec A) → veer N t (x ⟶ o) d + veer N t d (x ⟶ f) ≡ veer N t (f ⟶ o) d
  unfolding ◌⊗◌ ◌⇢◌
  cross_sum Left = ring_v R 4 0 (λ x f o d. less E o x :× d :+ d :× less E f x := less E o f :× d) refl
  cross_sum Right = ring_v R 4 0 (λ x f o d. d :× less E o x :+ less E f x :× d := d :× less E o f) refl

  pub fore_at : (t : Side) (c l r x : Vec A) → veer N t (x ⟶ r) (x ⟶ l) ≡ veer N (other t) (l ⟶ c) (r ⟶ c) + veer N (other t) (r ⟶ c) (x ⟶ c) + veer N (other t) (x ⟶ c) (l ⟶ c)
  unfolding ◌⊗◌ ◌⇢◌
  fore_at Left = ring_v R 4 0 (λ c l r x. less E r x :× less E l x := less E c r :× less E c l :+ less E c x :× less E c r :+ less E c l :× less E c x) refl
  fore_at Right = ring_v R 4 0 (λ c l r x. less E l x :× less E r x := less E c l :× less E c r :+ less E c r :× less E c x :+ less E c x :× less E c l) refl

  pub faces_sum : (l r u c : Vec A) → veer N Left (l ⟶ u) (r ⟶ u) + (veer N Left (u ⟶ c) (u ⟶ l) + veer N Right (u ⟶ c) (u ⟶ r)) ≡ veer N Left (l ⟶ c) (r ⟶ c)
  unfolding ◌⊗◌ ◌⇢◌
  faces_sum = ring_v R 4 0 (λ l r u c. less E u l :× less E u r :+ (less E c u :× less E l u :+ less E r u :× less E c u) := less E c l :× less E c r) refl

  pub front_sum : (t : Side) (f o x z : Vec A) → veer N t (x ⟶ o) (x ⟶ z) ≡ veer N t (f ⟶ o) (f ⟶ z) + veer N t (f ⟶ x) (f ⟶ o) + veer N t (f ⟶ z) (f ⟶ x)
  unfolding ◌⊗◌ ◌⇢◌
  front_sum Left = ring_v R 4 0 (λ f o x z. less E o x :× less E z x := less E o f :× less E z f :+ less E x f :× less E o f :+ less E z f :× less E x f) refl
  front_sum Right = ring_v R 4 0 (λ f o x z. less E z x :× less E o x := less E z f :× less E o f :+ less E o f :× less E x f :+ less E x f :× less E z f) refl

  pub fore_sum : (t : Side) (x f o z : Vec A) → veer N t (f ⟶ o) (f ⟶ z) + veer N t (x ⟶ o) (x ⟶ f) ≡ veer N t (f ⟶ o) (x ⟶ z)
  unfolding ◌⊗◌ ◌⇢◌
  fore_sum Left = ring_v R 4 0 (λ x f o z. less E o f :× less E z f :+ less E o x :× less E f x := less E o f :× less E z x) refl
  fore_sum Right = ring_v R 4 0 (λ x f o z. less E z f :× less E o f :+ less E f x :× less E o x := less E z x :× less E o f) refl

  pub front_three : (t : Side) (x f o z : Vec A) → veer N t (f ⟶ o) (f ⟶ z) + (veer N t (x ⟶ f) (x ⟶ z) + veer N t (x ⟶ z) (x ⟶ o) + veer N t (x ⟶ o) (x ⟶ f)) ≡ 𝟘
  unfolding ◌⊗◌ ◌⇢◌
  front_three Left = ring_v R 4 0 (λ x f o z. less E o f :× less E z f :+ (less E f x :× less E z x :+ less E z x :× less E o x :+ less E o x :× less E f x) := :0) refl
  front_three Right = ring_v R 4 0 (λ x f o z. less E z f :× less E o f :+ (less E z x :× less E f x :+ less E o x :× less E z x :+ less E f x :× less E o x) := :0) refl

  pub front_two : (t : Side) (x f o z : Vec A) → veer N t (f ⟶ o) (f ⟶ z) + veer N t (x ⟶ z) (x ⟶ o) + veer N t (x ⟶ o) (x ⟶ f) ≡ veer N t (x ⟶ z) (x ⟶ f)
  unfolding ◌⊗◌ ◌⇢◌
  front_two Left = ring_v R 4 0 (λ x f o z. less E o f :× less E z f :+ less E z x :× less E o x :+ less E o x :× less E f x := less E z x :× less E f x) refl
  front_two Right = ring_v R 4 0 (λ x f o z. less E z f :× less E o f :+ less E o x :× less E z x :+ less E f x :× less E o x := less E f x :× less E z x) refl

  pub behind_is : (l r s : Vec A) → veer N Right (l ⟶ r) (l ⟶ s) ≡ veer N Left (s ⟶ r) (s ⟶ l)
  unfolding ◌⊗◌ ◌⇢◌
  behind_is = ring_v R 3 0 (λ l r s. less E s l :× less E r l := less E r s :× less E l s) refl

  pub left_end : (l r s : Vec A) → veer N Left (s ⟶ r) (s ⟶ l) ≡ veer N Right (s ⟶ l) (l ⟶ r)
  unfolding ◌⊗◌ ◌⇢◌
  left_end = ring_v R 3 0 (λ l r s. less E r s :× less E l s := less E r l :× less E l s) refl

  pub right_end : (l r s : Vec A) → veer N Left (s ⟶ r) (s ⟶ l) ≡ veer N Right (s ⟶ r) (l ⟶ r)
  unfolding ◌⊗◌ ◌⇢◌
  right_end = ring_v R 3 0 (λ l r s. less E r s :× less E l s := less E r l :× less E r s) refl

  pub sum_through : (l r x d : Vec A) → veer N Right d (x ⟶ r) + veer N Left d (x ⟶ l) ≡ veer N Right d (l ⟶ r)
  unfolding ◌⊗◌ ◌⇢◌
  sum_through = ring_v R 4 0 (λ l r x d. less E r x :× d :+ d :× less E l x := less E r l :× d) refl

  pub lies : (t : Side) (v w x : Vec A) → veer N t (v ⟶ w) (x ⟶ w) ≡ - (veer N t (v ⟶ w) (v ⟶ x))
  unfolding ◌⊗◌ ◌⇢◌
  lies Left = ring_v R 3 0 (λ v w x. less E w v :× less E w x := :- (less E w v :× less E x v)) refl
  lies Right = ring_v R 3 0 (λ v w x. less E w x :× less E w v := :- (less E x v :× less E w v)) refl

  pub turn_round : (t : Side) (w x a : Vec A) → - (veer N t (w ⟶ x) a) ≡ veer N t (x ⟶ w) a
  unfolding ◌⊗◌ ◌⇢◌
  turn_round Left = ring_v R 3 0 (λ w x a. :- (less E x w :× a) := less E w x :× a) refl
  turn_round Right = ring_v R 3 0 (λ w x a. :- (a :× less E x w) := a :× less E w x) refl
