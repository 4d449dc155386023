-- What was read is the first of what there was.
use Rattle.std.proofs.Common.{inl}
use Rattle.case_files.proofs.Front.{first-read, mapped}
use Rattle.case_files.proofs.folder.read_file.Goals as goal

pub returns-in-Ok-clause-known : goal.returns-in-Ok-clause-known
returns-in-Ok-clause-known g c = mapped _ _ _ (λ _ e. inl e) (first-read _ _ _ _ c.in-Ok.ensures.bound c.in-Ok.ensures.bytes c.in-Ok.ensures.whole)
