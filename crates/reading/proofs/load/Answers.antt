-- The body is read into room of the call's own, and what 6 lets pass is taken over.
use Rattle.std.proofs.Common.{◌≡◌, sym, ap, ◌∙◌, ◌*◌, ◌++◌, take, drop, ℕ, List, one-mul}
use lib.Seq.{length-take-le, take_at}
use Rattle.refusal.specs.Number.{refusal_of}
use Rattle.checks.specs.Checks.{told}
use Rattle.reading.specs.Reading.{body_of}
use Rattle.reading.specs.Reading.Body.{body}
use Rattle.reading.proofs.Laws.{load-tables}
use Rattle.reading.proofs.load.Goals as goal

pub returns : goal.returns
returns c =
    let a = c.args.counts in
    let q = c.requires in
    let r = c.read_body in
    let t = c.tables_refusal in
    let n = refusal_of t.result in
    let h : body_of a.vertices a.half_edges a.faces c.args.text.now ≡ body (take (4 * a.vertices) r.new.vs) (take (4 * a.half_edges) r.new.es) (take a.faces r.new.fs) =
    rw (one-mul a.faces) at c.in_ok-read_body.ensures in
    load-tables _ _ _ _ _ _ _ _ h
    (t.ensures
    ∙ ap (λ (l : List ℕ). told n (take (4 * a.vertices) r.new.vs) l t.new.faces) (sym (take_at t.new.edges (drop (4 * a.half_edges) c.args.edges.now) (4 * a.half_edges) (t.auto.edges ∙ length-take-le _ _ q.1)))
    ∙ ap (λ (l : List ℕ). told n (take (4 * a.vertices) r.new.vs) (take (4 * a.half_edges) (t.new.edges ++ drop (4 * a.half_edges) c.args.edges.now)) l) (sym (take_at t.new.faces (drop a.faces c.args.faces.now) a.faces (t.auto.faces ∙ length-take-le _ _ q.2))))
