-- Records that were being written as their clients fell: those that rose are committed, and others aren't.
use Rattle.std.proofs.Common.{◌≡◌, List, [], ◌∷◌, ◌++◌, inl, inr, Some, None, refl, sym, ap, ◌∙◌, arith}
use Rattle.qc_decl.specs.Vocabulary.{three}
use Rattle.qc_entry.specs.declared.record.Commit.{Commit as CommitRecord}
use Rattle.qc_list.specs.Vocabulary.{In}
use Rattle.qc_msg.specs.Vocabulary.{Entry, by, marked}
use Rattle.qc_msg.specs.declared.record.Record.TheVariants.{Commit}
use Rattle.qc_msg.specs.declared.reply.Reply.TheVariants as replies
use Rattle.qc_msg.specs.declared.step.Command.TheVariants as commands
use Rattle.qc_msg.specs.declared.step.Fall.TheVariants.{Stop}
use Rattle.qc_msg.specs.declared.step.Step.TheVariants as steps
use Rattle.laws_guarantees.specs.Vocabulary.{line, name, read, reads, write, writes}
use Rattle.laws_votes.specs.Vocabulary.{DependsOn, IsToldAtFall, IsToldBy, all_fit, fell_bare, fell_later, reader_fell}
use Rattle.laws_votes.specs.Vocabulary.{unknown_fall, writer_fell}
use Rattle.qc_promise.specs.Vocabulary.{Current, committed}
use Rattle.qc_script.specs.declared.script.Script.{Script}
use Rattle.qc_stamp.specs.declared.stamp.TxId.{TxId}

differ : (name 0).client ≡ (name 1).client → ⊥
differ same = omega arith

apart : name 0 ≡ name 1 → ⊥
apart same = differ (ap (λ (x : TxId). x.client) same)

depends_in : (h : List Entry) → In writes (committed three h) → DependsOn three h reads read line
depends_in h among = record {
  operation = inl refl;
  logged = record {
    commit = writes;
    listed = among;
    stamped = refl;
    named = refl;
    operation = record {
      place = 0;
      numbered = refl;
      operation = write;
      found = refl;
      on = refl;
      resp = 2;
      responded = refl;
      is_event = refl;
    };
  };
  apart = apart;
  on = refl;
  depends = refl;
}

pub writer_rose : DependsOn three (writer_fell (Commit writes ∷ [])) reads read line
writer_rose = depends_in (writer_fell (Commit writes ∷ [])) (inl refl)

pub reader_rose : DependsOn three (reader_fell (Commit reads ∷ [])) reads read line
reader_rose = depends_in (reader_fell (Commit reads ∷ [])) (inl refl)

-- the line would be of the reader's own transaction
pub writer_lost : DependsOn three (writer_fell []) reads read line → ⊥
writer_lost d = by d.logged.listed
  where
    by : In d.logged.commit (committed three (writer_fell [])) → ⊥
    by (inl same) = d.apart (d.logged.named ∙ ap (λ (c : CommitRecord). c.tx) same)
    by (inr never) = never

pub reader_lost : (script : Script) (t : Current) → IsToldBy all_fit three script (reader_fell []) reads read t → ⊥
reader_lost script t k = by k.commits
  where
    by : In reads (committed three (reader_fell [])) → ⊥
    by (inl same) = apart (sym (ap (λ (c : CommitRecord). c.tx) same))
    by (inr never) = never

-- replies at falls

pub not_response : (script : Script) (h : List Entry) → IsToldAtFall all_fit three script h 4 [] (replies.Response 0)
    → ⊥
not_response script h f = let same : replies.Response 0 ≡ replies.Unknown = f.unknown in let never : ⊥ = cc in never

pub not_later : (script : Script) → IsToldAtFall all_fit three script fell_later 4 [] replies.Unknown → ⊥
not_later script f =
    let second : marked 4 (steps.Called commands.Begin) ≡ marked 4 (steps.Fell f.cause (Some (Commit f.commit))) =
    (let whole : fell_later ≡ by 4 (unknown_fall f.cause f.commit) ++ f.after = f.stands in cc) in
    let step : steps.Called commands.Begin ≡ steps.Fell f.cause (Some (Commit f.commit)) =
    ap (λ (e : Entry). e.step) second in
    let never : ⊥ = cc in
    never

pub not_bare : (script : Script) → IsToldAtFall all_fit three script fell_bare 4 [] replies.Unknown → ⊥
not_bare script f =
    let second : marked 4 (steps.Fell Stop None) ≡ marked 4 (steps.Fell f.cause (Some (Commit f.commit))) =
    (let whole : fell_bare ≡ by 4 (unknown_fall f.cause f.commit) ++ f.after = f.stands in cc) in
    let step : steps.Fell Stop None ≡ steps.Fell f.cause (Some (Commit f.commit)) = ap (λ (e : Entry). e.step) second in
    let never : ⊥ = cc in
    never
