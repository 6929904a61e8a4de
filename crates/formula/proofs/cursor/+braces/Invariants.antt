use Rattle.formula.specs.Levels.{operand}
use Rattle.formula.specs.Places.{unread, ahead}
use Rattle.formula.specs.Trees.{Acts}
use Rattle.formula.proofs.Measures.{calls, at_level, at_operand}
use Rattle.formula.proofs.cursor.+braces.Given as goal

abbrev pub decreases-Cursor::actions : goal.decreases-Cursor::actions
decreases-Cursor::actions l = at_level Acts (ahead l.self.now) l.level

abbrev pub decreases-Cursor::actions-chain+arg3 : goal.decreases-Cursor::actions-chain+arg3
decreases-Cursor::actions-chain+arg3 l = at_operand Acts (unread l.rest) (operand l.connective)

abbrev pub decreases-Cursor::grouped_actions : goal.decreases-Cursor::grouped_actions
decreases-Cursor::grouped_actions l = calls (ahead l.self.now) 7

abbrev pub decreases-Cursor::other_actions : goal.decreases-Cursor::other_actions
decreases-Cursor::other_actions l = calls (ahead l.self.now) 7

abbrev pub decreases-Cursor::tight_actions : goal.decreases-Cursor::tight_actions
decreases-Cursor::tight_actions l = calls (ahead l.self.now) 1
