-- The table, computed.
use Rattle.std.proofs.Common.{codes, refl, arith}
use Rattle.std.specs.List.{All}
use Rattle.meaning.specs.Examples.{upload, lone}
use Rattle.meaning.specs.Lts.{Lts}
use Rattle.meaning.specs.Rows.{IsSystem, system}
use Rattle.meaning.specs.Weights.{airtime, peak}
use Rattle.meaning.proofs.Deadlocks.{deadlock_test}
use Rattle.meaning.proofs.Rows.{is_system}
use Rattle.formula.specs.Reading.{read, in_braces, tree_of}
use Rattle.figures.specs.Claims.{IsRight, HasNodes, IsJoin, IsJoined}
use Rattle.figures.specs.Table.{upload_labels, upload_rows, lone_labels, lone_rows, joins, ends}
use Rattle.figures.specs.Table.{WorkedFigures}
use Rattle.figures.proofs.Rows.{all_of, right_by, nodes_by, weighs_by}

upload-is : IsSystem upload
upload-is = is_system upload refl (omega arith) (omega arith) (omega arith) (omega arith) (omega arith)

lone-is : IsSystem lone
lone-is = is_system lone refl (omega arith) (omega arith) (omega arith) (omega arith) (omega arith)

abbrev upload_lts : Lts
upload_lts = system upload upload-is

abbrev lone_lts : Lts
lone_lts = system lone lone-is

at_upload : All (IsRight upload_lts upload_labels) upload_rows
unfolding read in_braces tree_of
at_upload =
    all_of (IsRight upload_lts upload_labels) upload_rows (
      right_by _ _ _ _ _ refl refl refl refl refl,
      (
        right_by _ _ _ _ _ refl refl refl refl refl,
        (
          right_by _ _ _ _ _ refl refl refl refl refl,
          (right_by _ _ _ _ _ refl refl refl refl refl, tt),
        ),
      ),
    )

at_lone : All (IsRight lone_lts lone_labels) lone_rows
unfolding read in_braces tree_of
at_lone =
    all_of (IsRight lone_lts lone_labels) lone_rows (
      right_by _ _ _ _ _ refl refl refl refl refl,
      (
        right_by _ _ _ _ _ refl refl refl refl refl,
        (
          right_by _ _ _ _ _ refl refl refl refl refl,
          (right_by _ _ _ _ _ refl refl refl refl refl, tt),
        ),
      ),
    )

at_limits : All IsJoin joins
at_limits =
    all_of IsJoin joins (
      record { states = refl; slots = refl; fits = refl },
      (
        record { states = refl; slots = refl; fits = refl },
        (
          record { states = refl; slots = refl; fits = refl },
          (record { states = refl; slots = refl; fits = refl }, tt),
        ),
      ),
    )

at_ends : All IsJoined ends
at_ends =
    all_of IsJoined ends
    (refl, (refl, (refl, (refl, (refl, (refl, (refl, (refl, (refl, tt)))))))))

nodes : HasNodes (codes "EX {a}") 2
unfolding read in_braces tree_of
nodes = nodes_by _ _ _ refl refl

pub worked_figures : WorkedFigures
worked_figures = record {
  at_upload = (upload-is, record { numbers = refl; each = at_upload });
  at_lone = (lone-is, record { numbers = refl; each = at_lone });
  deadlocked = (lone-is, (deadlock_test lone_lts lone.start).0 refl);
  two_of_three = refl;
  at_limits = at_limits;
  nodes = nodes;
  by_airtime = weighs_by airtime _ _ refl;
  by_peak = weighs_by peak _ _ refl;
  at_ends = at_ends;
}
