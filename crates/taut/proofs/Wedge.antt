-- The wedge of directions at the apex, from the near chain's last edge to the far chain's: open, or shut to one direction with a witness on its side.
-- `transfer`: what lies before the portal and not beyond the near edge is not beyond the far edge. `inside`: a direction from before the portal in the wedge has the signs that both edges have.
use Rattle.std.proofs.Common.{◌≡◌, ◌⊎◌, sym, ap, ◌∙◌, inl, inr}
use Rattle.algebra.specs.Arithmetic.{Arithmetic, Nn}
use Rattle.algebra.specs.Plane.{Vec, ◌⟶◌ as ◌⇢◌}
use Rattle.algebra.proofs.RingSolver.{CommRing, nil_mul}
use Rattle.algebra.proofs.OrderedRing.{OrderedRing, base, pos_eq, nn_eq, nn_pos, nn_split, pos_cancel, nn_cancel, signs, nil_cancel, nn_both}
use Rattle.taut.specs.declared.Side.{Side}
use Rattle.taut.specs.Sleeve.{other, veer}
use Rattle.taut.proofs.Veer.{swap, between, thrust, across_portal}
use Rattle.taut.proofs.Along.{vanish', pos_right, along, along_nn, along_pos}
use Rattle.taut.proofs.FrontLemma.{Seen, Fore, fore}

module _ (K : OrderedRing) where
  abbrev N : Arithmetic
  N = K.numbers

  abbrev R : CommRing
  R = base K

  open N use {carrier as A, Pos}
  open N.ops use {nil as 𝟘, add as ◌+◌, mul as ◌*◌, neg as -◌}
  open K.laws.order use {pos_nil}

  infixl 65 ◌+◌
  infixl 70 ◌*◌
  infix 75 -◌
  -- from a to z it turns to side t, or they are one direction, as h shows
  pub data Wedge (t : Side) (a z : Vec A) : Type 0 where
    open' : Pos (veer N t a z) → Wedge t a z
    shut : veer N t a z ≡ 𝟘 → (h : Vec A) → Pos (veer N t a h) → Pos (veer N t z h) → Wedge t a z

  -- ---- a portal (n, o) that both directions cross, and x before it: what is not beyond a is not beyond z
  pub transfer : (t : Side) (a z n o x : Vec A) → Wedge t a z → Seen K (other t) a n o → Seen K (other t) z n o → Nn N (veer N (other t) o n) → Fore K (other t) n o x → Nn N (veer N (other t) a x) → Nn N (veer N (other t) z x)
  transfer t a z n o x (open' az) sa sz on fx ax = nn_pos K (fore K (other t) z a n o x (pos_eq K (sym (swap K t z a)) az) sz sa on fx ax)
  transfer t a z n o x (shut e h ah zh) sa sz on fx ax = along_nn K t (other t) a h z x e ah zh ax

  -- ---- d between a and z, from before the portal
  pub record Inside (t : Side) (a z d : Vec A) : Type 0 where
    pub weak : (s : Side) (k : Vec A) → Nn N (veer N s a k) → Nn N (veer N s z k) → Nn N (veer N s d k)
    pub strict : (s : Side) (k : Vec A) → Pos (veer N s a k) → Pos (veer N s z k) → Pos (veer N s d k)
    pub wedge : Wedge t d z

  module _ (t : Side) (a z d n o : Vec A) (sa : Seen K (other t) a n o) (sz : Seen K (other t) z n o) (on : Nn N (veer N (other t) o n)) (fx : Fore K (other t) n o d) (ad : Nn N (veer N t a d)) (dz : Nn N (veer N t d z)) where
    abbrev g : Vec A
    g = ◌⇢◌ N n o

    dg : Pos (veer N t d g)
    dg = pos_eq K (thrust K t n o d) (search signs)

    ag : Nn N (veer N t a g)
    ag = let p : Nn N (veer N (other t) a n) = sa.near in let q : Nn N (veer N (other t) o a) = sa.far in nn_eq K (across_portal K t n o a) (search signs)

    zg : Nn N (veer N t z g)
    zg = let p : Nn N (veer N (other t) z n) = sz.near in let q : Nn N (veer N (other t) o z) = sz.far in nn_eq K (across_portal K t n o z) (search signs)

    inside_open : Pos (veer N t a z) → Pos (veer N t d z) ⊎ (veer N t d z ≡ 𝟘) → Inside t a z d
    inside_open az (inl dz⁺) = record {
      weak = λ s k ak zk. nn_cancel K az (nn_eq K (between K t s a z d k) (search signs));
      strict = λ s k ak zk. let zk' : Nn N (veer N s z k) = nn_pos K zk in pos_cancel K az (pos_eq K (between K t s a z d k) (search signs));
      wedge = open' dz⁺;
    }
    inside_open az (inr e) =
        let pr : Pos (veer N t a d * veer N t z g) = pos_eq K (sym (vanish' K (veer N t a d * veer N t z g) (veer N t d z) (veer N t a z * veer N t d g) (veer N t a g) e (between K t t a z d g))) (let p : Pos (veer N t d g) = dg in search signs) in
        let ad⁺ : Pos (veer N t a d) = pos_right K zg (pos_eq K (R.laws.mul_comm (veer N t a d) (veer N t z g)) pr) in
        record {
          weak = λ s k ak zk. nn_cancel K az (nn_eq K (between K t s a z d k) (search signs));
          strict = λ s k ak zk. let ak' : Nn N (veer N s a k) = nn_pos K ak in pos_cancel K az (pos_eq K (between K t s a z d k) (search signs));
          wedge = shut e g dg (pos_right K ad pr);
        }

    turn_sum : (h : Vec A) → veer N t a d * veer N t z h + veer N t d z * veer N t a h ≡ veer N t a z * veer N t d h
    turn_sum h = R.laws.add_comm (veer N t a d * veer N t z h) (veer N t d z * veer N t a h) ∙ between K t t a z d h

    pub inside : Wedge t a z → Inside t a z d
    inside (open' az) = inside_open az (nn_split K dz)
    inside (shut e h ah zh) =
        let zero : veer N t a d * veer N t z h + veer N t d z * veer N t a h ≡ 𝟘 = turn_sum h ∙ ap (λ x. x * veer N t d h) e ∙ nil_mul R (veer N t d h) in
        let two : (veer N t a d * veer N t z h ≡ 𝟘) × (veer N t d z * veer N t a h ≡ 𝟘) = nn_both K (search signs) (search signs) zero in
        let ad₀ : veer N t a d ≡ 𝟘 = nil_cancel K zh (R.laws.mul_comm (veer N t z h) (veer N t a d) ∙ two.0) in
        let dz₀ : veer N t d z ≡ 𝟘 = nil_cancel K ah (R.laws.mul_comm (veer N t a h) (veer N t d z) ∙ two.1) in
        let dh : Pos (veer N t d h) = pos_right K ag (pos_eq K (sym (R.laws.mul_comm (veer N t a g) (veer N t d h) ∙ along K t t a h d g ad₀)) (let p : Pos (veer N t d g) = dg in search signs)) in
        record { weak = λ s k ak zk. along_nn K t s a h d k ad₀ ah dh ak; strict = λ s k ak zk. along_pos K t s a h d k ad₀ ah dh ak; wedge = shut dz₀ h dh zh }
