-- `slices::write_book` meets its contract: four writes, each right after the one before. Assumes nothing.
use Rattle.std.proofs.Common.{◌≡◌, ap, refl, ◌∙◌, ℕ, List, [], ◌∷◌, length, rules}
use Rattle.std.proofs.Math.Seq.{paste}
use Rattle.std.proofs.lemmas.Slice.{put_mid-paste}
use Rattle.book.specs.Books.{section_max}
use Rattle.slices.specs.Books.{wear_at, bends_at, retired_at, book-written}
use Rattle.slices.proofs.write_book.Goals as goal

pub returns : goal.returns
returns c =
    let b = c.args.book in
    let d = c.args.out.now in
    let hw : length b.wear ≡ section_max = search rules in
    let hb : length b.bends ≡ section_max = search rules in
    put_mid-paste retired_at 1 _ _ (b.retired ∷ []) 1 c.copy_from_slice-4.ensures.after refl refl
    ∙ (ap (λ (l : List ℕ). paste l retired_at (b.retired ∷ []) 1)
    (put_mid-paste bends_at section_max _ _ b.bends (length b.bends) c.copy_from_slice-3.ensures.after hb refl
    ∙ ap (λ (l : List ℕ). paste l bends_at b.bends (length b.bends))
    (put_mid-paste wear_at section_max _ _ b.wear (length b.wear) c.copy_from_slice-2.ensures.after hw refl
    ∙ ap (λ (l : List ℕ). paste l wear_at b.wear (length b.wear)) (put_mid-paste 0 1 d _ (b.sections ∷ []) 1 c.copy_from_slice.ensures.after refl refl)))
    ∙ book-written b hw hb d)
