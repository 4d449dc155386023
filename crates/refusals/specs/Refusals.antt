-- Which refusals each public call can give, for all arguments: every chart's bytes, good or bad, every load, slice, book and entry. 02, CR 11: "15 leaves the
-- table". None is 0, the number that says 'accepted'. Assumes nothing.
use Rattle.std.specs.Prelude.{◌≡◌, true, List, [], ◌∷◌, ◌++◌, ℕ, Float, ℤ}
use Rattle.whole.specs.Among.{among}
use Rattle.checks.specs.Checks.Loaded.{loaded, refused}
use Rattle.checks.specs.Numbers.{of_tables}
use Rattle.reading.specs.Reading.{chart_in, chart_refusal_of}
use Rattle.reading.specs.Laws.{of_chart}
use Rattle.weights.specs.Barycentric.{Weights}
use Rattle.charge.specs.Charging.{Cost, charge_of}
use Rattle.values.specs.Value.{Answer}
use Rattle.query.specs.Location as L
use Rattle.query.specs.Weights as W
use Rattle.query.specs.Gradient as G
use Rattle.query.specs.Natural as N
use Rattle.query.specs.Value as I
use Rattle.writing.specs.Writing as S
use Rattle.inserting.specs.Inserting.{InsertOf}
use Rattle.book.specs.declared.Book.{Book}
use Rattle.book.specs.Books.{fresh_book}
use Rattle.entries.specs.declared.Entry.{Entry}
use Rattle.entries.specs.Ruling.{Ruling as R}
use Rattle.entries.specs.Ruling.{with17}
use Rattle.accounts.specs.Rulings.{entry_ruling}
use Rattle.accounts.specs.Batch.{batch_of}
use Rattle.estivolh.specs.Account.{queries}
use Rattle.refusals.specs.Entries.{of_entry}
use Rattle.checks.specs.Checks.{Loaded}

pub record Refusals : Type 0 where
  -- a chart's bytes
  pub check : (s : List ℕ) → among (0 ∷ of_chart) (chart_refusal_of s) ≡ true
  -- the queries
  pub locate : (s : List ℕ) (x y : ℤ) (n : ℕ) → L.locate_of s x y ≡ L.Located.turned_down n → among (of_chart ++ 13 ∷ []) n ≡ true
  pub barycentric : (s : List ℕ) (x y : ℤ) (n : ℕ) → W.barycentric_of s x y ≡ Weights.turned_down n → among (of_chart ++ 13 ∷ 14 ∷ []) n ≡ true
  pub edges : (s : List ℕ) (x y : ℤ) (lent : List ℕ) (n : ℕ) → (N.natural_edges_of s x y lent).answer ≡ N.Tally.turned_down n → among (2 ∷ of_chart ++ 13 ∷ 14 ∷ []) n ≡ true
  pub natural : (s : List ℕ) (x y : ℤ) (os : List ℕ) (ws : List Float) (n : ℕ) → (N.natural_shares_of s x y os ws).answer ≡ N.Tally.turned_down n → among (2 ∷ of_chart ++ 13 ∷ 14 ∷ []) n ≡ true
  pub gradient : (s : List ℕ) (v n : ℕ) → G.estimate_of s v ≡ G.Slope.turned_down n → among (of_chart ++ 12 ∷ []) n ≡ true
  pub value : (s : List ℕ) (m x y : ℤ) (n : ℕ) → I.interpolate_of s m x y ≡ Answer.turned_down n → among (of_chart ++ 12 ∷ 13 ∷ 14 ∷ []) n ≡ true
  -- the charge, and the writer
  pub charge : (v : Float) (n : ℕ) → charge_of v ≡ Cost.turned_down n → among (16 ∷ []) n ≡ true
  pub write : (vs es fs : List ℤ) (lent : List ℕ) (n : ℕ) → (S.write_of vs es fs lent).answer ≡ S.Written.turned_down n → among (2 ∷ 4 ∷ of_tables ++ 18 ∷ []) n ≡ true
  -- a new bench test, whatever the call leaves
  pub insert : (s : List ℕ) (x y z : ℤ) (lent : List ℕ) (done : S.Saved) → InsertOf s x y z lent done → (n : ℕ) → done.answer ≡ S.Written.turned_down n → among (of_chart ++ 13 ∷ 25 ∷ 26 ∷ 18 ∷ []) n ≡ true
  -- the book
  pub fresh : (s : ℕ) → among (0 ∷ 1 ∷ []) (fresh_book s).refusal ≡ true
  pub batch : (b : Book) (s : List ℕ) (es : List ℤ) (lent : List ℕ) → among (0 ∷ 1 ∷ 2 ∷ of_chart) (batch_of queries b s es lent).refusal ≡ true
  -- and an entry of a batch, which is not refused, so that its chart is accepted
  pub entry : (s : List ℕ) (vs : List ℤ) (es fs : List ℕ) → chart_in s ≡ loaded vs es fs → (sections : ℕ) (e : Entry) (total : ℕ) (count : ℕ → ℕ) (n : ℕ)
      → with17 total count (entry_ruling queries sections s e) ≡ R.Refused n → among of_entry n ≡ true

-- ---- a new bench test
abbrev pub of_inserting : List ℕ
of_inserting = of_chart ++ 13 ∷ 25 ∷ 26 ∷ 18 ∷ []

-- ---- an answer of each kind that is refused with one of these, if it is refused
abbrev pub PlaceBy : List ℕ → L.Located → Type 0
PlaceBy ns (L.Located.at l) = Unit {0}
PlaceBy ns (L.Located.turned_down n) = among ns n ≡ true

abbrev pub WeightsBy : List ℕ → Weights → Type 0
WeightsBy ns (Weights.weights l) = Unit {0}
WeightsBy ns (Weights.turned_down n) = among ns n ≡ true

abbrev pub TallyBy : List ℕ → N.Tally → Type 0
TallyBy ns (N.Tally.listed n o) = Unit {0}
TallyBy ns (N.Tally.turned_down n) = among ns n ≡ true

abbrev pub SlopeBy : List ℕ → G.Slope → Type 0
SlopeBy ns (G.Slope.slope x y) = Unit {0}
SlopeBy ns (G.Slope.turned_down n) = among ns n ≡ true

abbrev pub CostBy : List ℕ → Cost → Type 0
CostBy ns (Cost.whole n) = Unit {0}
CostBy ns (Cost.turned_down n) = among ns n ≡ true

abbrev pub WrittenBy : List ℕ → S.Written → Type 0
WrittenBy ns (S.Written.wrote n) = Unit {0}
WrittenBy ns (S.Written.turned_down n) = among ns n ≡ true

abbrev pub ChartBy : List ℕ → Loaded → Type 0
ChartBy ns (loaded vs es fs) = Unit {0}
ChartBy ns (refused n) = among ns n ≡ true

-- ---- what the calls of a kind share
abbrev pub of_natural : List ℕ
of_natural = 2 ∷ of_chart ++ 13 ∷ 14 ∷ []

abbrev pub of_query : List ℕ
of_query = 12 ∷ 13 ∷ 14 ∷ []

abbrev pub of_writing : List ℕ
of_writing = 2 ∷ 4 ∷ of_tables ++ 18 ∷ []
