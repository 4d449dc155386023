-- A table of gradients that is written from the front: none are estimated at first, and each one written is one more. Assumes nothing.
use Rattle.std.specs.Prelude.{◌≡◌, List, ℕ, ◌+◌, ◌<◌, length, set}
use Rattle.std.proofs.Common.{◌∙◌, not-suc-le-zero, arith, length-set, below_more, get_or-set_same, get_or-set_other}
use Rattle.chart.specs.Chart.{Chart}
use Rattle.gradient.specs.declared.Gradient.{Gradient}
use Rattle.gradient.specs.Gradient.{gradient_of}
use Rattle.gradient.specs.Estimated.{level, Estimated}

pub estimated-none : (c : Chart) (table : List Gradient) → Estimated c table 0
estimated-none c table = record { room = omega arith; at = λ v m. absurd (not-suc-le-zero m) }

pub estimated-more : (c : Chart) (table : List Gradient) (v : ℕ) → Estimated c table v → v < length table → (x : Gradient) → x ≡ gradient_of c v → Estimated c (set table v x) (v + 1)
estimated-more c table v d l x e =
    record {
      room = omega (arith, length-set table v x);
      at = below_more _ _ (λ i m. get_or-set_other table v i x level (λ z. omega arith) ∙ d.at i m) (get_or-set_same table v x level l ∙ e);
    }
