use Rattle.std.proofs.Common.{rules, ◌≡◌, ◌<◌, ◌≤◌, length, take, refl, ap, ◌∙◌, arith}
use Rattle.std.proofs.lemmas.List.{length-take-le, take_more_set}
use Rattle.formula.specs.Tokens.{tok, found, front}
use Rattle.formula.proofs.Lexing.{begins, at_token}
use Rattle.formula.proofs.lexer.lex.Goals as goal

pub loop-token-init : goal.loop-token-init
loop-token-init c =
    let rest : c.into_iter-token-iterator.result.rest.now ≡ c.args.text.now = ap (λ s. s.rest.now) c.into_iter-token-iterator.ensures.into_iter_gives ∙ c.new-token-items.ensures in
    record { lexed = begins _ _ _ refl rest; few = omega (arith, ap length rest) }

pub loop-token-preserved : goal.loop-token-preserved
loop-token-preserved c =
    let l = c.loop-token in let text = c.args.text.now in
    let e : front c.loop-token.token-iterator.rest.now ≡ found (tok c.in_ok-room.field-0) c.next.new.self.rest.now = search rules in
    let less : length c.next.new.self.rest.now < length c.loop-token.token-iterator.rest.now = (c.in-Some.ensures.goes.on tt).2 in
    let room : c.loop-token.count < length c.loop-token.room = omega (arith, c.requires, l.auto.room, l.invariant.few, less) in
    let some : length (take c.loop-token.count c.loop-token.room) ≤ length text = omega (arith, length-take-le l.count l.room (omega (arith, room)), l.invariant.few) in
    record {
      lexed = at_token text (take l.count l.room) l.token-iterator.rest.now some l.invariant.lexed c.in_ok-room.field-0 _ e _ (take_more_set l.room l.count c.in_ok-room.field-0 room);
      few = omega (arith, l.invariant.few, less);
    }
