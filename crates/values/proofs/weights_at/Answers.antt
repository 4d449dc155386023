use Rattle.std.proofs.Common.{sym, ◌∙◌}
use Rattle.locate.proofs.Laws.{located}
use Rattle.values.proofs.weights_at.Goals as goal

pub edge_weights-requires : goal.edge_weights-requires
edge_weights-requires c = (located _ _ _ (sym c.in-OnEdge.is ∙ c.requires)).0

pub face_weights-requires : goal.face_weights-requires
face_weights-requires c = (located _ _ _ (sym c.in-OnFace.is ∙ c.requires)).0
