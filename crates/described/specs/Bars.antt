-- Layer            a layer over a mesh: a mirror, or bars
-- from_below       the layers of a pile, the lowest first
-- having_bars      a pile with a layer of bars: itself if it has one, and else with one on top
-- under            the surface that the layer of bars of a pile stands on, or would stand on
-- first_refused    of bars that are set one after the other over a surface, where some stand: the refusal of the first that cannot stand
-- stands           what becomes of a pile with these bars over a surface: nothing to refuse without bars
use Rattle.std.specs.Prelude.{List, [], ◌∷◌, ◌++◌, length, None, Option}
use Rattle.std.specs.Option.{option_or}
use Rattle.base.specs.declared.ids.HalfEdgeId.{HalfEdgeId}
use Rattle.base.specs.declared.refusals.Refusal.{Refusal}
use Rattle.mesh.specs.Surface.{Surface}
use Rattle.surfaces.specs.Layers.{mirrored, barred, bar_refusal}
use Rattle.described.specs.declared.layers.Pile.{Pile}
use Rattle.described.specs.declared.layers.Pile.TheVariants.{Bare, Mirror, Bars, MirrorBars, BarsMirror}

pub data Layer : Type 0 where
  mirror_layer : Layer
  bar_layer : Layer

abbrev pub from_below : Pile → List Layer
from_below Bare = []
from_below Mirror = mirror_layer ∷ []
from_below Bars = bar_layer ∷ []
from_below MirrorBars = mirror_layer ∷ bar_layer ∷ []
from_below BarsMirror = bar_layer ∷ mirror_layer ∷ []

abbrev pub having_bars : Pile → Pile
having_bars Bare = Bars
having_bars Mirror = MirrorBars
having_bars Bars = Bars
having_bars MirrorBars = MirrorBars
having_bars BarsMirror = BarsMirror

abbrev pub under : Pile → Surface → Surface
under Bare f = f
under Mirror f = mirrored f
under Bars f = f
under MirrorBars f = mirrored f
under BarsMirror f = f

abbrev pub first_refused : Surface → List HalfEdgeId → List HalfEdgeId → Option Refusal
first_refused f standing [] = None
first_refused f standing (side ∷ more) = option_or (bar_refusal (barred standing f) side (length standing)) (first_refused f (standing ++ side ∷ []) more)

abbrev pub stands : Pile → List HalfEdgeId → Surface → Option Refusal
stands Bare bars f = None
stands Mirror bars f = None
stands Bars bars f = first_refused f [] bars
stands BarsMirror bars f = first_refused f [] bars
stands MirrorBars bars f = first_refused (mirrored f) [] bars
