-- `text::part::stride` meets its contract.
use Rattle.std.proofs.Common.{◌≡◌, drop}
use Rattle.std.specs.Slice.Iter.{chunks_exact_rest, chunks_exact_size}
use Rattle.text.proofs.PartedLaws.{Passed}
use Rattle.text.proofs.part.stride.Given as goal

abbrev pub invariant-loop-stride : goal.invariant-loop-stride
invariant-loop-stride l =
    (goal.iterator-loop-stride).can_next l.stride-iterator ×
    (goal.iterator-loop-stride).is_finite l.stride-iterator ×
    Passed l.separator l.text l.at l.end ×
    (drop l.end l.text ≡ chunks_exact_rest l.stride-iterator) ×
    (chunks_exact_size l.stride-iterator ≡ l.n)
