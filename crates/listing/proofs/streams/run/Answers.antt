use Rattle.std.proofs.Common.{subst, List, ℕ}
use Rattle.std.specs.Io.KnownBytes.{Appends}
use Rattle.listing.proofs.Runnings.{printed, all_read, on_ok}
use Rattle.listing.proofs.streams.run.Goals as goal

pub returns : goal.returns
returns g c =
    let before = g.W.Write.contents c.args.writer.now in let after = g.W.Write.contents c.write_all.new.self in
    let read =
    all_read g.R.Read.remaining c.args.reader c.take.result.inner c.take.result.limit c.new-input.result.items c.read_to_end.new.buf.items c.deref.result.now
    c.take.ensures.inner c.take.ensures.limit c.new-input.ensures.items c.deref.ensures.value c.in_ok-read_to_end.ensures.bytes in
    on_ok _ _ c.write_all.result
    (λ a. printed (g.R.Read.remaining c.args.reader) c.deref.result.now c.in_ok-out.out.items before after read c.in_ok-out.ensures
    (subst (λ (x : List ℕ). Appends before after x) c.deref-2.ensures.value a))
    c.write_all.ensures.bytes
