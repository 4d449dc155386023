-- What is read so far stands in front, and what is left makes the rest of the numbers.
use Rattle.std.proofs.Common.{◌≡◌, ◌≤◌, [], length, take}
use Rattle.batch_text.specs.Batch.{slice_of, numbers_of}
use Rattle.batch_text.proofs.Numbers.{after}
use Rattle.batch_text.proofs.read_entries_in.Given as goal

abbrev pub invariant-loop-part : goal.invariant-loop-part
invariant-loop-part l = record {
  within : l.count ≤ length l.room;
  long : length l.room ≡ length l.initial.room;
  said : slice_of l.line ≡ after (take l.count l.room) (numbers_of [] l.rest);
}

abbrev pub decreases-loop-part : goal.decreases-loop-part
decreases-loop-part l = length l.rest
