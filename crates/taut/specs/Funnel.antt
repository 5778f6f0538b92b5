-- The funnel of Lee and Preparata, on lists. It reads the portals from the last to the first; the apex is then on the end point's side.
-- It asks for the sign of a turn of three points and for nothing else about coordinates.
-- Signs     a sign function tells of every number whether it is positive, zero or negative
-- bears     three points turn strictly to a side
-- Funnel    two chains of vertices that meet at the apex, and the bends that are final
--           near: from the present portal's near end to the apex; far: from the apex to its far end; neither holds the apex
--           final: the bends from the apex on; the apex is the first of them, or the end point if there is none
-- next      the vertex after a part of the near chain, or the apex
-- flip      the same funnel with near and far exchanged
-- settle    what a new near end leaves of a funnel: corners are dropped one at a time from the near end of the row `near, apex, far`,
--           along the near chain while they do not turn strictly to the near side on the way from the new end,
--           then at the apex while the next corner of the far chain stands strictly in the way; that corner is a bend, and the new apex
-- gain      the funnel with a new vertex at its end on a side; a funnel is kept with the left end near
-- widen     from a portal's funnel to that of the portal before it: the end that is not shared is new
-- funnel_at the funnel at a portal, with the portals after it
-- bends     a chain, as bends on a side
-- funnel    the bends that the funnel finds: the start is one more left end, and sees the final bends over what is left of the left chain
use Rattle.std.specs.Prelude.{◌≡◌, Bool, true, false, cond, List, [], ◌∷◌, ◌++◌, reverse, ◌==◌}
use Rattle.algebra.specs.Arithmetic.{Arithmetic}
use Rattle.algebra.specs.Plane.{Vec, less, cross}
use Rattle.algebra.specs.declared.Sign.{Sign}
use Rattle.algebra.specs.declared.Sign.TheVariants.{Minus, Zero, Plus}
use Rattle.taut.specs.declared.Side.{Side}
use Rattle.taut.specs.declared.Side.TheVariants.{Left, Right}
use Rattle.taut.specs.Sleeve.{other, Vertex, Portal}
use Rattle.taut.specs.TautString.{Bend, aim}

-- the sign of a turn to the left is plus
abbrev pub is_turn : Side → Sign → Bool
is_turn Left Plus = true
is_turn Left Zero = false
is_turn Left Minus = false
is_turn Right Plus = false
is_turn Right Zero = false
is_turn Right Minus = true

pub record Funnel (A : Type 0) : Type 0 where
  pub near : List (Vertex A)
  pub final : List (Bend A)
  pub far : List (Vertex A)

abbrev pub flip : {A : Type 0} → Funnel A → Funnel A
flip f = record { near = reverse f.far; final = f.final; far = reverse f.near }

abbrev pub push : {A : Type 0} → Vertex A → Funnel A → Funnel A
push v f = record { near = v ∷ f.near; final = f.final; far = f.far }

abbrev pub bends : {A : Type 0} → Side → List (Vertex A) → List (Bend A)
bends t [] = []
bends t (c ∷ cs) = record { side = t; vertex = c } ∷ bends t cs

module _ (N : Arithmetic) where
  open N use {carrier as A₀, Pos}

  abbrev pub Says : Sign → A₀ → Type 0
  Says Plus a = Pos a
  Says Zero a = a ≡ N.ops.nil
  Says Minus a = Pos (N.ops.neg a)

  abbrev pub Signs : (A₀ → Sign) → Type 0
  Signs sign = (a : A₀) → Says (sign a) a

  abbrev pub next : Vec A₀ → List (Vertex A₀) → List (Bend A₀) → Vec A₀
  next e [] fb = aim N e fb
  next e (c ∷ cs) fb = c.point

module _ (N : Arithmetic) (sign : N.carrier → Sign) where
  open N use {carrier as A}

  abbrev pub bears : Side → Vec A → Vec A → Vec A → Bool
  bears t a b c = is_turn t (sign (cross N.ops (less N.ops b a) (less N.ops c a)))

  module _ (e : Vec A) where
    -- at the apex
    abbrev pub advance : Side → Vec A → List (Bend A) → List (Vertex A) → Funnel A
    advance t y fb [] = record { near = []; final = fb; far = [] }
    advance t y fb (z ∷ zs) =
        cond (bears (other t) y z.point (aim N e fb))
        (advance t y (record { side = other t; vertex = z } ∷ fb) zs)
        (record { near = []; final = fb; far = z ∷ zs })

    -- along the near chain
    abbrev pub settle : Side → Vec A → List (Vertex A) → List (Bend A) → List (Vertex A) → Funnel A
    settle t y [] fb zs = advance t y fb zs
    settle t y (c ∷ cs) fb zs =
        cond (bears t y c.point (next N e cs fb))
        (record { near = c ∷ cs; final = fb; far = zs })
        (settle t y cs fb zs)

    abbrev pub gain : Side → Vertex A → Funnel A → Funnel A
    gain Left v f = push v (settle Left v.point f.near f.final f.far)
    gain Right v f = flip (push v (settle Right v.point (flip f).near f.final (flip f).far))

    abbrev pub widen : Portal A → Portal A → Funnel A → Funnel A
    widen p q f = cond (p.left.number == q.left.number) (gain Right p.right f) (gain Left p.left f)

    abbrev pub funnel_at : Portal A → List (Portal A) → Funnel A
    funnel_at p [] = record { near = p.left ∷ []; final = []; far = p.right ∷ [] }
    funnel_at p (q ∷ ps) = widen p q (funnel_at q ps)

    abbrev pub seen_from : Vec A → Funnel A → List (Bend A)
    seen_from s f = let g = settle Left s f.near f.final f.far in bends Left g.near ++ g.final

  abbrev pub funnel : Vec A → List (Portal A) → Vec A → List (Bend A)
  funnel s [] e = []
  funnel s (p ∷ ps) e = seen_from e s (funnel_at e p ps)
