-- 01, "Links": what refusal 7 asks of a chart, clause by clause.
use Rattle.std.specs.Prelude.{Bool, not, ◌&&◌, ◌||◌, ℕ, eqb}
use Rattle.whole.specs.First.{some}
use Rattle.chart.specs.Chart.{Chart, partner, outer}

-- the next of h starts at the origin of h's partner
abbrev pub next_starts : Chart → ℕ → Bool
next_starts c h = eqb (c.origin (c.next h)) (c.origin (partner h))

-- h and its partner have different origins
abbrev pub ends_differ : Chart → ℕ → Bool
ends_differ c h = not (eqb (c.origin h) (c.origin (partner h)))

-- prev of next and next of prev are h
abbrev pub prev_next : Chart → ℕ → Bool
prev_next c h = eqb (c.prev (c.next h)) h

abbrev pub next_prev : Chart → ℕ → Bool
next_prev c h = eqb (c.next (c.prev h)) h

-- next keeps the face
abbrev pub keeps_face : Chart → ℕ → Bool
keeps_face c h = eqb (c.face (c.next h)) (c.face h)

-- on an inner face three nexts return to h
abbrev pub three_nexts : Chart → ℕ → Bool
three_nexts c h = outer c h || eqb (c.next (c.next (c.next h))) h

-- every half-edge of an inner face is its adjacent one or that one's next or prev
abbrev pub of_its_face : Chart → ℕ → Bool
of_its_face c h =
    outer c h
    || (eqb h (c.adjacent (c.face h))
    || (eqb h (c.next (c.adjacent (c.face h))) || eqb h (c.prev (c.adjacent (c.face h)))))

-- a vertex's out half-edge starts there
abbrev pub out_starts : Chart → ℕ → Bool
out_starts c v = eqb (c.origin (c.out v)) v

-- a face's adjacent half-edge has that face
abbrev pub adjacent_has : Chart → ℕ → Bool
adjacent_has c f = eqb (c.face (c.adjacent f)) f

-- at most one outer half-edge leaves a vertex: none of a lower number leaves the origin of the outer h
abbrev pub leaves : Chart → ℕ → ℕ → Bool
leaves c v k = outer c k && eqb (c.origin k) v

abbrev pub leaves_again : Chart → ℕ → Bool
leaves_again c h = outer c h && some (leaves c (c.origin h)) h

-- ---- the clauses about one half-edge, together
unfoldable pub linked : Chart → ℕ → Bool
linked c h =
    next_starts c h
    && (ends_differ c h
    && (prev_next c h && (next_prev c h && (keeps_face c h && (three_nexts c h && of_its_face c h)))))

-- what breaks them
abbrev pub unlinked : Chart → ℕ → Bool
unlinked c h = not (linked c h)

abbrev pub stray_out : Chart → ℕ → Bool
stray_out c v = not (out_starts c v)

abbrev pub stray_adjacent : Chart → ℕ → Bool
stray_adjacent c f = not (adjacent_has c f)

-- 7: links broken
unfoldable pub links_broken : Chart → Bool
links_broken c =
    some (unlinked c) c.half_edges
    || (some (stray_out c) c.vertices || (some (stray_adjacent c) c.faces || some (leaves_again c) c.half_edges))
