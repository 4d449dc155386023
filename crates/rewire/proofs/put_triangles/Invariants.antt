-- The loop's invariant: the triangles before this one are written.
use Rattle.std.specs.Prelude.{◌≡◌, take, reverse}
use Rattle.rewire.specs.Tables.{triangles_in, faces_in}
use Rattle.rewire.proofs.put_triangles.Given as goal

abbrev pub invariant-loop-r : goal.invariant-loop-r
invariant-loop-r l =
    record {
      edges : l.edges ≡ triangles_in l.initial.edges (reverse (take l.r-index l.triangles));
      faces : l.faces ≡ faces_in l.initial.faces (reverse (take l.r-index l.triangles));
    }
