use Rattle.std.proofs.Common.{Some, arith, refl}
use Rattle.qc_outside.specs.Vocabulary.{held}
use Rattle.qc_outside.specs.declared.mem_rack.MemRack.{MemRack}
use Rattle.qc_top.specs.Vocabulary.{folder_in}
use Rattle.qc_words.specs.Vocabulary.{texts_of}
use Rattle.quorum.proofs.Calls.{is_call, unblamed}
use Rattle.quorum.proofs.run_in_memory.Goals as goal

pub returns : goal.returns
returns g c = record {
  call =
      is_call (λ (r : MemRack). Some (held r.places.items)) c.args.shelf.now c.quorum_words.new.shelf
      c.args.rack.now c.quorum_words.new.rack c.quorum_words.result.cause c.quorum_words.new.sink.taken
      c.quorum_words.result.history (texts_of c.args.words.now) c.args.sink.now.taken c.quorum_words.result.status
      c.requires.unread c.requires.unwritten c.quorum_words.ensures.leaves c.quorum_words.ensures.status
      c.quorum_words.ensures.full c.quorum_words.ensures.before;
  kept = c.quorum_words.ensures.kept refl;
  spent = c.quorum_words.ensures.spent (omega arith);
  disks =
      unblamed (folder_in (texts_of c.args.words.now)) c.args.rack.now.places.items c.requires.unused
      c.quorum_words.result.cause c.quorum_words.ensures.rack;
}
