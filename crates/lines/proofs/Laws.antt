-- A table of lines that is written from the front: none are drawn at first, and each line written is one more. Assumes nothing.
use Rattle.std.specs.Prelude.{◌≡◌, List, ℕ, ◌+◌, ◌*◌, ◌<◌, length, set}
use Rattle.std.proofs.Common.{◌∙◌, not-suc-le-zero, arith, length-set, below_more, get_or-set_same, get_or-set_other}
use Rattle.chart.specs.Chart.{Chart}
use Rattle.lines.specs.declared.Line.{Line}
use Rattle.lines.specs.Lines.{line_of, no_line, Drawn}

pub drawn-none : (c : Chart) (lines : List Line) → Drawn c lines 0
drawn-none c lines = record { room = omega arith; each = λ k m. absurd (not-suc-le-zero m) }

pub drawn-more : (c : Chart) (lines : List Line) (k : ℕ) → Drawn c lines k → k < length lines → (x : Line) → x ≡ line_of c (2 * k) → Drawn c (set lines k x) (k + 1)
drawn-more c lines k d l x e =
    record {
      room = omega (arith, length-set lines k x);
      each = below_more _ _ (λ i m. get_or-set_other lines k i x no_line (λ z. omega arith) ∙ d.each i m) (get_or-set_same lines k x no_line l ∙ e);
    }
