use Rattle.std.proofs.Common.{rules, tests, arith, ◌≡◌, ◌+◌, ℕ, List, [], ◌∷◌, length, get_or, Fits, w64, ◌∙◌}
use lib.Count.{ones}
use Rattle.std.specs.List.{sum_by}
use Rattle.std.proofs.lemmas.Iterator.{YieldsList-from_slice, YieldsList-from_map}
use Rattle.std.proofs.lemmas.Iterator.Consumers.{sum_by_from_yields_List, fits_by_from_yields_list}
use Rattle.faceset.specs.Set.{count_below, has}
use Rattle.faceset.specs.Laws.{count-le}
use Rattle.faceset.proofs.Words.{has-count}
use Rattle.faceset.proofs.FaceSet.count.Goals as goal
use Rattle.faceset.proofs.FaceSet.count.Goals.{Start}

of_four : (ws : List ℕ) → length ws ≡ 4 → sum_by ones ws ≡ ones (get_or ws 0 0) + ones (get_or ws 1 0) + ones (get_or ws 2 0) + ones (get_or ws 3 0)
of_four [] e = absurd (omega arith)
of_four (a ∷ []) e = absurd (omega arith)
of_four (a ∷ b ∷ []) e = absurd (omega arith)
of_four (a ∷ b ∷ d ∷ []) e = absurd (omega arith)
of_four (a ∷ b ∷ d ∷ f ∷ []) e = omega arith
of_four (a ∷ b ∷ d ∷ f ∷ g ∷ ws) e = absurd (omega arith)

-- the four words' ones are the count
total : (c : Start) → sum_by ones c.args.self.words ≡ count_below 256 (has c.args.self.words)
total c = of_four c.args.self.words (search rules) ∙ has-count c.args.self.words (λ i. let f : Fits w64 (get_or c.args.self.words i 0) = search rules in f.fits)

pub sum-requires-clause-fits : goal.sum-requires-clause-fits
sum-requires-clause-fits c =
    let s = (goal.at.sum-requires-clause-fits c).Start in
    fits_by_from_yields_list ones c.args.self.words c.map.result _
    (YieldsList-from_map _ ones (YieldsList-from_slice c.args.self.words cc) c.map.ensures.closure (λ x r q k. search (rules, tests)))
    (omega (arith, total s, count-le 256 (has c.args.self.words)))

pub returns : goal.returns
returns c =
    sum_by_from_yields_List ones c.args.self.words c.map.result _ c.sum.ensures.ran
    (YieldsList-from_map _ ones (YieldsList-from_slice c.args.self.words cc) c.map.ensures.closure (λ x r q k. search (rules, tests)))
    ∙ total (goal.at.returns c).Start
