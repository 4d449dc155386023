use Rattle.std.proofs.Common.{sym, ◌∙◌}
use Rattle.locate.proofs.Laws.{located}
use Rattle.sites.proofs.site_at.Goals as goal

pub is_part_of_convex_hull-requires : goal.is_part_of_convex_hull-requires
is_part_of_convex_hull-requires c = (located _ _ _ (sym c.in-OnEdge.is ∙ c.locate.ensures)).0

pub adjacent-requires : goal.adjacent-requires
adjacent-requires c = (located _ _ _ (sym c.in-OnFace.is ∙ c.locate.ensures)).0
