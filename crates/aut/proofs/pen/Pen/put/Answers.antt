use Rattle.std.proofs.Common.{◌+◌, ◌-◌, ◌++◌, length, take, refl, ◌∙◌, sym, ap, arith}
use Rattle.std.proofs.lemmas.List.{drop-drop, length-drop}
use Rattle.std.proofs.lemmas.Slice.{take-put_mid, drop-put_mid}
use Rattle.aut.proofs.pen.Pen.put.Goals as goal

pub returns : goal.returns
returns c =
    let p = c.args.self.now in let x = c.args.bytes.now in let a = p.at in let y = c.copy_from_slice.new.self in
    let same = c.copy_from_slice.ensures.after in
    let within = p.within in
    let fits = c.requires in
    let left = length-drop p.at p.text.now in
    let size = ap length same in
    record {
      written_is = take-put_mid a (a + length x - a) p.text.now y (a + length x) (omega arith) within ∙ ap (λ z. take a p.text.now ++ z) same;
      room_is = drop-put_mid a (a + length x - a) p.text.now y (a + length x) (omega arith) within (omega arith) ∙ sym (drop-drop (length x) a p.text.now);
      text_is = refl;
    }
