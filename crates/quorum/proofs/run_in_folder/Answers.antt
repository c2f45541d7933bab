use Rattle.std.proofs.Common.{◌≡◌, ◌-◌, ℕ, None, arith, subst}
use Rattle.qc_promise.specs.Vocabulary.{Spent}
use Rattle.qc_top.specs.Vocabulary.{IsRackBlamed, folder_in}
use Rattle.qc_words.specs.Vocabulary.{texts_of}
use Rattle.quorum.proofs.Calls.{is_call}
use Rattle.quorum.proofs.run_in_folder.Goals as goal

pub returns : goal.returns
returns g c = record {
  call =
      is_call (λ r. None) c.args.shelf.now c.quorum_words.new.shelf c.args.rack.now c.quorum_words.new.rack
      c.quorum_words.result.cause c.quorum_words.new.sink.taken c.quorum_words.result.history
      (texts_of c.args.words.now) c.args.sink.now.taken c.quorum_words.result.status c.requires.unread
      c.requires.unwritten c.quorum_words.ensures.leaves c.quorum_words.ensures.status c.quorum_words.ensures.full
      c.quorum_words.ensures.before;
  spent = λ below.
      let first : c.args.rack.now.faults ≡ 0 = c.requires.unused in
      let all : c.quorum_words.new.rack.faults - c.args.rack.now.faults ≡ c.quorum_words.new.rack.faults =
      omega (arith, first) in
      subst (λ (n : ℕ). Spent c.quorum_words.result.history n) all (c.quorum_words.ensures.spent below);
  disks = λ fault is.
      subst
      (λ (n : ℕ). IsRackBlamed (folder_in (texts_of c.args.words.now)) None n c.quorum_words.new.rack.faults fault)
      c.requires.unused (c.quorum_words.ensures.rack fault is);
}
