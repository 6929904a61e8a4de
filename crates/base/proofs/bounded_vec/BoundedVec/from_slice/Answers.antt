use Rattle.std.proofs.Common.{arith}
use Rattle.std.proofs.lemmas.List.{length-replicate, length-take}
use Rattle.base.proofs.Filling.{filled-front}
use Rattle.base.proofs.bounded_vec.BoundedVec.from_slice.Goals as goal

pub invariant_of-result : goal.invariant_of-result
invariant_of-result g c =
    let long = simp (length-take, length-replicate) at c.copy_from_slice.ensures.len in
    rw (← c.filler-items.ensures) (filled-front g.row.N c.filler-items.result c.copy_from_slice.new.self c.min-len.result (omega arith) (omega arith))
