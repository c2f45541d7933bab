use Rattle.std.proofs.Common.{map, refl, ap, ◌∙◌}
use Rattle.qc_text.specs.Vocabulary.{commit_of}
use Rattle.qc_text.proofs.Keys.{commit_added, other_left}
use Rattle.qc_text.proofs.committed.with_record.Goals as goal
use Rattle.qc_text.proofs.committed.with_record.Goals.{in-Commit+in_ok-key_of+in_ok-_is_new, in_default}

pub returns : goal.returns
returns c =
    elim c.match-kept.branch [
      | in-Commit+in_ok-key_of+in_ok-_is_new w ↦
          ap (λ s. map commit_of s.keys) w.all-is
          ∙ commit_added _ (λ a b. refl) c.args.keys.keys w.insert.new.self.keys _ c.args.kept.now _
          w.in_ok-_is_new.ensures.keys w.in_ok-key_of.ensures w.in-Commit.is
      | in_default w ↦ ap (λ s. map commit_of s.keys) w.all-is
          ∙ other_left c.args.keys.keys c.args.kept.now w.in_default.not-Commit
    ]
