-- `demand::both_ways` meets its contract: its calls are calls of the theorem. Assumes nothing.
use mathlib.Core.Path.{◌≡◌, refl, sym, ap, ◌∙◌}
use native.Mathlib.Omega.{arith}
use mathlib.Core.List.{List}
use Prim.Native.Nat.{◌*◌, ◌-◌}
use lib.IntN.{ℤ}
use lib.Seq.{take_all}
use lib.ListN.{length, take, drop, length-drop}
use Rattle.std.specs.Prelude.{Result, Ok, Err}
use Rattle.std.specs.Result.{result_unwrap_or, ResultUnwrapsOrElse}
use Rattle.refusal.specs.declared.Refusal.{Refusal}
use Rattle.book.specs.declared.Book.{Book}
use Rattle.book.specs.Books.{zero_book}
use Rattle.book.specs.Returned.{Returned, returned_of}
use Rattle.accounts.specs.Batch.{batch_of}
use Rattle.accounts.specs.Demand.{fresh}
use Rattle.estivolh.specs.Account.{queries}
use Rattle.demand.specs.Demand.{alike}
use Rattle.demand.proofs.both_ways.Goals as goal

unwrapped : (r : Result Book Refusal) (b : Book) → (returned_of r b).book ≡ result_unwrap_or r b
unwrapped (Ok _) b = refl
unwrapped (Err _) b = refl

or-default : (r : Result Book Refusal) (z b : Book) → ResultUnwrapsOrElse r (λ x. x ≡ z) b → (returned_of r z).book ≡ b
or-default (Ok _) z b h = sym h
or-default (Err _) z b h = sym h

pub returns : goal.returns
returns c =
    let a = c.args in
    let b = c.unwrap_or_default-book.result in
    let m = c.unwrap_or-between.result in
    let w = returned_of c.batch.result b in
    let x = returned_of c.batch-2.result b in
    let y = returned_of c.batch-3.result m in
    let z : b ≡ fresh a.sections =
    sym (or-default c.fresh.result (zero_book 0) b c.unwrap_or_default-book.ensures) ∙ ap (λ (r : Returned). r.book) c.fresh.ensures in
    let wb : c.unwrap_or-once.result ≡ w.book = c.unwrap_or-once.ensures ∙ sym (unwrapped c.batch.result b) in
    let xb : m ≡ x.book = c.unwrap_or-between.ensures ∙ sym (unwrapped c.batch-2.result b) in
    let yb : c.unwrap_or-last.result ≡ y.book = c.unwrap_or-last.ensures ∙ sym (unwrapped c.batch-3.result m) in
    rw (wb, yb) (
    alike a.sections c.requires.sections.0 c.requires.sections.1 a.chart.now a.entries.now a.cut a.whole.now a.first.now a.second.now
    w x y c.batch.new.answers c.batch-2.new.answers c.batch-3.new.answers c.requires.divisible
    (c.batch.ensures ∙ ap (λ (k : Book). batch_of queries k a.chart.now a.entries.now a.whole.now) z)
    (c.batch-2.ensures ∙ ap (λ (k : Book). batch_of queries k a.chart.now (take (a.cut * 5) a.entries.now) a.first.now) z)
    (c.batch-3.ensures
    ∙ (ap (λ (l : List ℤ). batch_of queries m a.chart.now l a.second.now) (take_all (length a.entries.now - a.cut * 5) (drop (a.cut * 5) a.entries.now) (omega (arith, length-drop (a.cut * 5) a.entries.now)))
    ∙ ap (λ (k : Book). batch_of queries k a.chart.now (drop (a.cut * 5) a.entries.now) a.second.now) xb)))
