use Rattle.std.proofs.Common.{◌≡◌, ◌≤◌, refl, sym, subst, length, IfSome}
use Rattle.ltt_base.specs.Status.{Seen}
use Rattle.ltt_driver.specs.Files.{text_limit}
use Rattle.ltt_driver.proofs.StatusLemmas.{made_or_told, too_long_told}
use Rattle.ltt_driver.proofs.command.on_file.Goals as goal

pub write_made-requires : goal.write_made-requires
unfolding text_limit
write_made-requires g c = subst (λ text. length text ≤ 67108864) (sym c.bytes.ensures) c.in-Ok.ensures.within

pub returns-in-Ok : goal.returns-in-Ok
unfolding text_limit
returns-in-Ok g c =
    let before : Seen = record {
      out = g.O.Sink.taken c.args.out.now;
      out_faults = g.O.Sink.faults c.args.out.now;
      err = g.E.Sink.taken c.args.err.now;
      err_faults = g.E.Sink.faults c.args.err.now;
      read_faults = g.F.Files.faults c.args.files.now;
    } in
    let after : Seen = record {
      out = g.O.Sink.taken c.write_made.new.out;
      out_faults = g.O.Sink.faults c.write_made.new.out;
      err = g.E.Sink.taken c.write_made.new.err;
      err_faults = g.E.Sink.faults c.write_made.new.err;
      read_faults = g.F.Files.faults c.read_file.new.files;
    } in
    made_or_told c.args.command (g.F.Files.held c.args.files.now) before after c.args.name.now c.bytes.result.now _ _
    (subst (λ text. IfSome (g.F.Files.held c.args.files.now c.args.name.now) (λ bytes. text ≡ bytes)) (sym c.bytes.ensures) c.in-Ok.ensures.bytes)
    (subst (λ text. length text ≤ 67108864) (sym c.bytes.ensures) c.in-Ok.ensures.within)
    c.requires c.write_made.ensures

pub returns-in-Err-TooLong : goal.returns-in-Err-TooLong
unfolding text_limit
returns-in-Err-TooLong g c =
    let before : Seen = record {
      out = g.O.Sink.taken c.args.out.now;
      out_faults = g.O.Sink.faults c.args.out.now;
      err = g.E.Sink.taken c.args.err.now;
      err_faults = g.E.Sink.faults c.args.err.now;
      read_faults = g.F.Files.faults c.args.files.now;
    } in
    let after : Seen = record {
      out = g.O.Sink.taken c.args.out.now;
      out_faults = g.O.Sink.faults c.args.out.now;
      err = g.E.Sink.taken c.say_too_long.new.err;
      err_faults = g.E.Sink.faults c.say_too_long.new.err;
      read_faults = g.F.Files.faults c.read_file.new.files;
    } in
    too_long_told c.args.command (g.F.Files.held c.args.files.now) before after c.args.name.now _ _
    (c.in-Err-TooLong.ensures.too_long (cc)) c.requires refl c.say_too_long.ensures
