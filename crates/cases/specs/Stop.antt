-- Why a case is not answered to its end, and what becomes of it.
use Rattle.std.specs.Prelude.{◌≡◌, IsErr, Result, Err, ⊤}
use Rattle.std.specs.declared.io.Error.{Error}
use Rattle.case_text.specs.declared.stop.Stop.{Stop}
use Rattle.case_text.specs.declared.stop.Stop.TheVariants.{Io, Memory}

-- The writer's own error is handed on, and so is a want of memory; of what is broken a line is printed.
abbrev pub HandedOn : Stop → Result (Unit {0}) Error → Type 0
HandedOn (Io e) r = r ≡ Err e
HandedOn (Memory _) r = IsErr r
HandedOn _ r = ⊤
