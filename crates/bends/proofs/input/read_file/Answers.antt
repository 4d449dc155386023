use Rattle.std.proofs.Common.{inl}
use Rattle.bends.proofs.Taken.{first-read, mapped}
use Rattle.bends.proofs.input.read_file.Goals as goal

pub returns-in-Ok-clause-known : goal.returns-in-Ok-clause-known
returns-in-Ok-clause-known g c = mapped _ _ _ (λ _ e. inl e) (first-read _ _ _ _ c.in-Ok.ensures.bound c.in-Ok.ensures.bytes c.in-Ok.ensures.whole)
