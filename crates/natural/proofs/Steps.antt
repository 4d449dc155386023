-- One element more, as the loops write it: v is f of the next one of a list. Assumes nothing.
use Rattle.std.proofs.Common.{◌≡◌, ℕ, List, ◌++◌, map, take, drop, set, get_or, length, ◌+◌, ◌<◌, sym, ap, ◌∙◌, arith, length-take-le}
use Rattle.std.specs.Prelude.{Float}
use Rattle.std.specs.Float.{nan}
use Rattle.std.proofs.Math.Seq.{take-append_seam}
use Rattle.geometry.specs.declared.Place.{Place}
use Rattle.chart.specs.Chart.{Chart}
use Rattle.natural.specs.Natural.{shares_of}
use Rattle.natural.specs.Arrays.{put_next, unput, written, first_next}
use Rattle.natural.specs.Facts.{share-count}
use Rattle.natural.specs.Laws.{settled-whole}

pub put_number : (f : ℕ → ℕ) (list old now : List ℕ) (i v : ℕ) → i < length list → i < length old → now ≡ map f (take i list) ++ drop i old → v ≡ f (get_or list i 0)
    → set now i v ≡ map f (take (i + 1) list) ++ drop (i + 1) old
put_number f list old now i v h k n e = rw e (put_next f list old now i 0 0 h k n)

-- the list is written over by what its elements become
pub unput_number : (f : ℕ → ℕ) (list now : List ℕ) (i : ℕ) → i < length list → now ≡ map f (take i list) ++ drop i list → get_or now i 0 ≡ get_or list i 0
unput_number f list now i h n = unput f list now i 0 h n

pub put_over : (f : ℕ → ℕ) (list now : List ℕ) (i v : ℕ) → i < length list → now ≡ map f (take i list) ++ drop i list → v ≡ f (get_or now i 0)
    → set now i v ≡ map f (take (i + 1) list) ++ drop (i + 1) list
put_over f list now i v h n e = put_number f list list now i v h h n (e ∙ ap f (unput_number f list now i h n))

pub put_float : (f : Float → Float) (list now : List Float) (i : ℕ) (v : Float) → i < length list → now ≡ map f (take i list) ++ drop i list → v ≡ f (get_or now i nan)
    → set now i v ≡ map f (take (i + 1) list) ++ drop (i + 1) list
put_float f list now i v h n e = rw (e ∙ ap f (unput f list now i nan h n)) (put_next f list list now i nan nan h h n)

-- a share is copied
pub put_share : (shares old now : List Float) (i : ℕ) (v : Float) → i < length shares → i < length old → now ≡ take i shares ++ drop i old → v ≡ get_or shares i nan
    → set now i v ≡ take (i + 1) shares ++ drop (i + 1) old
put_share shares old now i v h k n e = rw (n, e) (written (take i shares) (take (i + 1) shares) old i (get_or shares i nan) nan (length-take-le i shares (omega arith)) k (first_next shares i nan h))

-- the shares stand in front of what a call's own array held
pub shares-in-front : (c : Chart) (q : Place) (list : List ℕ) (t : List Float) → take (length list) (shares_of c q list ++ t) ≡ shares_of c q list
shares-in-front c q list t =
    ap (λ (n : ℕ). take n (shares_of c q list ++ t)) (sym (share-count c q list)) ∙ take-append_seam (shares_of c q list) t

pub ruleset settles = (settled-whole, share-count, shares-in-front)
