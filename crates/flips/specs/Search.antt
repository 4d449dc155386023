-- 01, "Weights": the search for natural neighbours, `inspect_flips` of the Rust with 01's additions: a face once opened is not opened again, its edge
-- counts as border.
use Rattle.std.specs.Prelude.{Bool, not, cond, ◌&&◌, List, [], ◌∷◌, ◌++◌, ℕ, zero, suc, ◌-◌, pos}
use Rattle.std.specs.Int.Signed.{lt_z}
use Rattle.faceset.specs.Set.{add, count_below}
use Rattle.geometry.specs.declared.Place.{Place}
use Rattle.geometry.specs.Plane.{circle}
use Rattle.chart.specs.Chart.{Chart, partner, from_of, to_of, outer}

-- the faces opened so far, and the edges listed so far, in the order found
pub record Found : Type 0 where
  pub opened : ℕ → Bool
  pub listed : List ℕ

abbrev pub found : (ℕ → Bool) → List ℕ → Found
found o l = record { opened = o; listed = l }

-- q is strictly inside the circle of h's face: of its opposite corner, of where h starts and where it ends
unfoldable pub in_circle : Chart → Place → ℕ → Bool
in_circle c q h = lt_z (pos 0) (circle (from_of c (c.prev h)) (from_of c h) (to_of c h) q)

-- h's face is to be opened: it is an inner one, is not opened yet, and q is in its circle
unfoldable pub should_flip : Chart → Place → (ℕ → Bool) → ℕ → Bool
should_flip c q opened h = not (outer c h) && (not (opened (c.face h)) && in_circle c q h)

-- h's face is opened
abbrev pub opening : Chart → ℕ → Found → Found
opening c h w = found (add (c.face h) w.opened) w.listed

-- h is border: its partner is listed
abbrev pub listing : ℕ → Found → Found
listing h w = found w.opened (w.listed ++ (partner h ∷ []))

-- what is found from h: its face is opened, and then what is found from prev's partner (e2, on top of the stack) and from next's (e1); or h is border.
-- `depth` bounds how many faces are opened one behind the other
unfoldable pub inspect : Chart → Place → ℕ → ℕ → Found → Found
unfolding should_flip
inspect c q zero h w = w
inspect c q (suc depth) h w =
    cond (should_flip c q w.opened h)
    (inspect c q depth (partner (c.next h)) (inspect c q depth (partner (c.prev h)) (opening c h w)))
    (listing h w)

-- all that is found from h: a face is opened once, so the faces are deep enough (`found-open`, `found-border`: the recursion without a depth)
abbrev pub inspect_flips : Chart → Place → ℕ → Found → Found
inspect_flips c q h w = inspect c q (suc c.faces) h w

-- from each of the half-edges in turn
unfoldable pub inspect_all : Chart → Place → List ℕ → Found → Found
unfolding inspect
inspect_all c q [] w = w
inspect_all c q (h ∷ hs) w = inspect_all c q hs (inspect_flips c q h w)

-- how many faces are opened, and how many are not
abbrev pub opened_count : Chart → (ℕ → Bool) → ℕ
opened_count c opened = count_below c.faces opened

abbrev pub free : Chart → (ℕ → Bool) → ℕ
free c opened = c.faces - opened_count c opened
