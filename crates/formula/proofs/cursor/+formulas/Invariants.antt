use Rattle.formula.specs.Levels.{operand}
use Rattle.formula.specs.Places.{unread, ahead}
use Rattle.formula.specs.Trees.{Tree}
use Rattle.formula.proofs.Measures.{calls, at_level, at_operand}
use Rattle.formula.proofs.cursor.+formulas.Given as goal

abbrev pub decreases-Cursor::formula : goal.decreases-Cursor::formula
decreases-Cursor::formula l = at_level Tree (ahead l.self.now) l.level

abbrev pub decreases-Cursor::formula-chain+arg3 : goal.decreases-Cursor::formula-chain+arg3
decreases-Cursor::formula-chain+arg3 l = at_operand Tree (unread l.rest) (operand l.connective)

abbrev pub decreases-Cursor::tight : goal.decreases-Cursor::tight
decreases-Cursor::tight l = calls (ahead l.self.now) 1

abbrev pub decreases-Cursor::negated : goal.decreases-Cursor::negated
decreases-Cursor::negated l = calls (ahead l.self.now) 10

abbrev pub decreases-Cursor::grouped : goal.decreases-Cursor::grouped
decreases-Cursor::grouped l = calls (ahead l.self.now) 10

abbrev pub decreases-Cursor::one_part : goal.decreases-Cursor::one_part
decreases-Cursor::one_part l = calls (ahead l.self.now) 10

abbrev pub decreases-Cursor::two_parts : goal.decreases-Cursor::two_parts
decreases-Cursor::two_parts l = calls (ahead l.self.now) 10

abbrev pub decreases-Cursor::part : goal.decreases-Cursor::part
decreases-Cursor::part l = calls (ahead l.self.now) 9

abbrev pub decreases-Cursor::after_braces : goal.decreases-Cursor::after_braces
decreases-Cursor::after_braces l = calls (ahead l.self.now) 8

abbrev pub decreases-Cursor::with_formula : goal.decreases-Cursor::with_formula
decreases-Cursor::with_formula l = calls (ahead l.self.now) 7
