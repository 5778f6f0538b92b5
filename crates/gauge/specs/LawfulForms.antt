-- The three supplied rows of forms are gauges.
use Rattle.std.specs.Prelude.{◌≡◌, false, T, List, [], ◌∷◌, pos, negsuc, ◌≢◌, refl}
use Rattle.std.proofs.Common.{sym, ap, ◌∙◌, subst, inl, inr}
use Rattle.std.specs.Int.Signed.{le_z_yes}
use Rattle.algebra.specs.Bounds.{Within}
use Rattle.algebra.specs.Number.{Number, zero, is_zero, quadratic_ops}
use Rattle.algebra.specs.Plane.{cross}
use Rattle.geometry.specs.Plane.{point}
use Rattle.gauge.specs.Measure.{Form, Among, opposite, Small, Lawful}
use Rattle.gauge.specs.Forms.{nought, unit, back, l1_forms, maximum_forms, octagon_forms}

-- a property of each form of a row
abbrev All : (Form → Type 0) → List Form → Type 0
All P [] = Unit {0}
All P (f ∷ fs) = P f × All P fs

each : (P : Form → Type 0) (fs : List Form) → All P fs → (f : Form) → Among f fs → P f
each P [] a f m = absurd m
each P (g ∷ fs) a f (inl e) = subst P (sym e) a.0
each P (g ∷ fs) a f (inr m) = each P fs a.1 f m

-- parts of 0, ±1 and ±√2 are small
minus_one : Within 4 (negsuc 0)
minus_one = (le_z_yes tt, le_z_yes tt)

none : Within 4 (pos 0)
none = (le_z_yes tt, le_z_yes tt)

plus_one : Within 4 (pos 1)
plus_one = (le_z_yes tt, le_z_yes tt)

-- a number that the test tells from 0
not_zero : (n : Number) → is_zero n ≡ false → n ≢ zero
not_zero n t e = subst T (sym (ap is_zero e) ∙ t) tt

pub l1_lawful : Lawful l1_forms
l1_lawful = record {
  small = each Small l1_forms ((plus_one, none, plus_one, none), ((plus_one, none, minus_one, none), ((minus_one, none, plus_one, none), ((minus_one, none, minus_one, none), tt))));
  opposites = each (λ f. Among (opposite f) l1_forms) l1_forms (inr (inr (inr (inl refl))), (inr (inr (inl refl)), (inr (inl refl), (inl refl, tt))));
  skew = (point unit unit, point unit back, inl refl, inr (inl refl), not_zero (cross quadratic_ops (point unit unit) (point unit back)) refl);
}

pub maximum_lawful : Lawful maximum_forms
maximum_lawful = record {
  small = each Small maximum_forms ((plus_one, none, none, none), ((minus_one, none, none, none), ((none, none, plus_one, none), ((none, none, minus_one, none), tt))));
  opposites = each (λ f. Among (opposite f) maximum_forms) maximum_forms (inr (inl refl), (inl refl, (inr (inr (inr (inl refl))), (inr (inr (inl refl)), tt))));
  skew = (point unit nought, point nought unit, inl refl, inr (inr (inl refl)), not_zero (cross quadratic_ops (point unit nought) (point nought unit)) refl);
}

pub octagon_lawful : Lawful octagon_forms
octagon_lawful = record {
  small = each Small octagon_forms ((none, plus_one, none, none), ((plus_one, none, plus_one, none), ((none, none, none, plus_one), ((minus_one, none, plus_one, none), ((none, minus_one, none, none), ((minus_one, none, minus_one, none), ((none, none, none, minus_one), ((plus_one, none, minus_one, none), tt))))))));
  opposites = each (λ f. Among (opposite f) octagon_forms) octagon_forms (
    inr (inr (inr (inr (inl refl)))),
    (
      inr (inr (inr (inr (inr (inl refl))))),
      (
        inr (inr (inr (inr (inr (inr (inl refl)))))),
        (
          inr (inr (inr (inr (inr (inr (inr (inl refl))))))),
          (
            inl refl,
            (
              inr (inl refl),
              (
                inr (inr (inl refl)),
                (
                  inr (inr (inr (inl refl))),
                  tt,
                ),
              ),
            ),
          ),
        ),
      ),
    ),
  );
  skew = (point unit unit, point unit back, inr (inl refl), inr (inr (inr (inr (inr (inr (inr (inl refl))))))), not_zero (cross quadratic_ops (point unit unit) (point unit back)) refl);
}
