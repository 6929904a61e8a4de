-- The worked examples, computed.
use Rattle.std.proofs.Common.{refl, arith}
use Rattle.std.proofs.lemmas.Bool.{both_ways}
use Rattle.std.specs.List.{AllByRecursion}
use Rattle.std.proofs.lemmas.List.Elements.{All-from_recursion}
use Rattle.meaning.specs.Formula.{TRUE, AX, AG, every_action, no_action}
use Rattle.meaning.specs.Rows.{IsSystem, system}
use Rattle.meaning.specs.Examples.{single, line, fork, wait, stray, IsAnswer, table, operators, HasVerdicts, WorkedExamples, AgSkips}
use Rattle.meaning.proofs.Reference.{reference_right}
use Rattle.meaning.proofs.Rows.{is_system}

single-is : IsSystem single
single-is = is_system single refl (omega arith) (omega arith) (omega arith) (omega arith) (omega arith)

line-is : IsSystem line
line-is = is_system line refl (omega arith) (omega arith) (omega arith) (omega arith) (omega arith)

fork-is : IsSystem fork
fork-is = is_system fork refl (omega arith) (omega arith) (omega arith) (omega arith) (omega arith)

wait-is : IsSystem wait
wait-is = is_system wait refl (omega arith) (omega arith) (omega arith) (omega arith) (omega arith)

stray-is : IsSystem stray
stray-is = is_system stray refl (omega arith) (omega arith) (omega arith) (omega arith) (omega arith)

-- all four computed, row by row
by_row : AllByRecursion HasVerdicts operators
by_row = (
  ((line-is, refl), (fork-is, refl), (wait-is, refl), (stray-is, refl)),
  (
    ((line-is, refl), (fork-is, refl), (wait-is, refl), (stray-is, refl)),
    (
      ((line-is, refl), (fork-is, refl), (wait-is, refl), (stray-is, refl)),
      (
        ((line-is, refl), (fork-is, refl), (wait-is, refl), (stray-is, refl)),
        (
          ((line-is, refl), (fork-is, refl), (wait-is, refl), (stray-is, refl)),
          (
            ((line-is, refl), (fork-is, refl), (wait-is, refl), (stray-is, refl)),
            (
              ((line-is, refl), (fork-is, refl), (wait-is, refl), (stray-is, refl)),
              (
                ((line-is, refl), (fork-is, refl), (wait-is, refl), (stray-is, refl)),
                (
                  ((line-is, refl), (fork-is, refl), (wait-is, refl), (stray-is, refl)),
                  (
                    ((line-is, refl), (fork-is, refl), (wait-is, refl), (stray-is, refl)),
                    tt,
                  ),
                ),
              ),
            ),
          ),
        ),
      ),
    ),
  ),
)

pub worked_examples : WorkedExamples
worked_examples = (
  All-from_recursion (λ r. IsAnswer r.0 r.1 r.2) table ((single-is, refl), ((single-is, refl), ((stray-is, refl), tt))),
  All-from_recursion HasVerdicts operators by_row,
)

pub ag_skips : AgSkips
ag_skips =
    let M = system single single-is in
    (single-is, ((reference_right M (AG every_action (AX no_action TRUE)) 0 (omega arith)).0 refl, λ h. both_ways _ refl ((reference_right M (AX no_action TRUE) 0 (omega arith)).1 h)))
