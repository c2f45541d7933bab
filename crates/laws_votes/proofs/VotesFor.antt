-- The row of a commit is Committed where all its votes are in and for it; what is taken meanwhile changes no more.
use Rattle.std.proofs.Common.{[], ◌≡◌, ◌==◌, ◌&&◌, ℕ, Bool, true, false, cond, if◌then◌else◌, List, ◌∷◌, inl, inr}
use Rattle.std.proofs.Common.{length, Option, Some, None, is_some, refl, sym, ap, ◌∙◌, eqb-true}
use Rattle.std.specs.Prelude.{option_and_then}
use Rattle.std.specs.List.{list_all}
use Rattle.std.specs.Option.{option_or}
use Rattle.qc_decl.specs.declared.declaration.Declaration.{Declaration}
use Rattle.laws_guarantees.proofs.DueStamps.{do_stamp, stamp_of}
use Rattle.qc_list.specs.Vocabulary.{In}
use Rattle.qc_msg.specs.declared.message.Answer.{Answer}
use Rattle.qc_msg.specs.declared.message.Answer.TheVariants as answers
use Rattle.qc_msg.specs.declared.reply.Reply.TheVariants as replies
use Rattle.qc_msg.specs.declared.reply.AbortCause.{AbortCause}
use Rattle.qc_msg.specs.declared.reply.AbortCause.TheVariants as causes
use Rattle.qc_msg.specs.declared.step.Command.{Command}
use Rattle.qc_msg.specs.declared.step.Command.TheVariants as commands
use Rattle.qc_promise.specs.Vocabulary.{Account, ClientRequest, Current, against, are_votes_in, commit_row}
use Rattle.qc_promise.specs.Vocabulary.{first_against, is_open, is_prepare, participants, requests_for, row_of}
use Rattle.qc_promise.specs.Vocabulary.{running_row, taken_for, vote_row}
use Rattle.qc_stamp.specs.declared.stamp.Stamp.{Stamp}
use Rattle.laws_due.proofs.Unwritten.{none_some}
use Rattle.qc_list.proofs.Booleans.{and_parts}

-- a vote that isn't against, and is in, is for

against_none : (q : ClientRequest) (o : Option (Option Answer)) → is_some o ≡ true → against q o ≡ None
    → (clock : ℕ) × (o ≡ Some (Some (answers.Yes clock)))
against_none q None taken is = absurd (let never : ⊥ = cc in never)
against_none q (Some None) taken is = absurd (let never : ⊥ = cc in never)
against_none q (Some (Some (answers.Granted grant))) taken is = absurd (let never : ⊥ = cc in never)
against_none q (Some (Some (answers.Clash holder inv event))) taken is = absurd (let never : ⊥ = cc in never)
against_none q (Some (Some (answers.Closed epoch))) taken is = absurd (let never : ⊥ = cc in never)
against_none q (Some (Some (answers.Behind epoch))) taken is = absurd (let never : ⊥ = cc in never)
against_none q (Some (Some (answers.Restarted life))) taken is = absurd (let never : ⊥ = cc in never)
against_none q (Some (Some answers.Stale)) taken is = absurd (let never : ⊥ = cc in never)
against_none q (Some (Some answers.Fault)) taken is = absurd (let never : ⊥ = cc in never)
against_none q (Some (Some (answers.Yes clock))) taken is = (clock, refl)
against_none q (Some (Some (answers.Shut snapshot))) taken is = absurd (let never : ⊥ = cc in never)
against_none q (Some (Some answers.Installed)) taken is = absurd (let never : ⊥ = cc in never)
against_none q (Some (Some (answers.Answered outcome))) taken is = absurd (let never : ⊥ = cc in never)

none_against : (qs : List ClientRequest) → first_against qs ≡ None → (q : ClientRequest) → In q qs
    → against q q.taken ≡ None
none_against [] is q among = absurd among
none_against (p ∷ qs) is q among = by (against p p.taken) refl is among (none_against qs)
  where
    by : (o : Option AbortCause) → against p p.taken ≡ o → option_or o (first_against qs) ≡ None → In q (p ∷ qs)
        → (first_against qs ≡ None → (x : ClientRequest) → In x qs → against x x.taken ≡ None)
        → against q q.taken ≡ None
    by None at rest (inl same) more = ap (λ (x : ClientRequest). against x x.taken) same ∙ at
    by None at rest (inr later) more = more rest q later
    by (Some why) at rest here more = absurd (let never : ⊥ = cc in never)

all_taken : (qs : List ClientRequest) → list_all (λ (q : ClientRequest). is_some q.taken) qs ≡ true
    → (q : ClientRequest) → In q qs → is_some q.taken ≡ true
all_taken [] all q among = absurd among
all_taken (p ∷ qs) all q among = by (is_some p.taken) refl all among (all_taken qs)
  where
    by : (b : Bool) → is_some p.taken ≡ b → (b && list_all (λ (q : ClientRequest). is_some q.taken) qs) ≡ true
        → In q (p ∷ qs)
        → (list_all (λ (q : ClientRequest). is_some q.taken) qs ≡ true → (x : ClientRequest) → In x qs
        → is_some x.taken ≡ true) → is_some q.taken ≡ true
    by true at rest (inl same) more = ap (λ (x : ClientRequest). is_some x.taken) same ∙ at
    by true at rest (inr later) more = more rest q later
    by false at rest here more = absurd (let never : ⊥ = cc in never)

-- the row of a commit is Committed

pub record IsVotedFor (decl : Declaration) (d : Account) (t : Current) : Type 0 where
  pub command : d.command ≡ Some commands.Commit
  pub current : d.current ≡ Some t
  pub count : length (participants decl d t) ≡ length (requests_for is_prepare d)
  pub each : (q : ClientRequest) → In q (requests_for is_prepare d)
      → (clock : ℕ) × (q.taken ≡ Some (Some (answers.Yes clock)))

module _ (decl : Declaration) where
  voted : (d : Account) (t : Current) → d.command ≡ Some commands.Commit → d.current ≡ Some t
      → are_votes_in decl d t ≡ true → first_against (requests_for is_prepare d) ≡ None → IsVotedFor decl d t
  voted d t command current in_all none =
      let both : ((length (participants decl d t) == length (requests_for is_prepare d)) ≡ true)
      × (list_all (λ (q : ClientRequest). is_some q.taken) (requests_for is_prepare d) ≡ true) =
      and_parts (length (participants decl d t) == length (requests_for is_prepare d))
      (list_all (λ (q : ClientRequest). is_some q.taken) (requests_for is_prepare d)) in_all in
      record {
        command = command;
        current = current;
        count = eqb-true (length (participants decl d t)) (length (requests_for is_prepare d)) both.0;
        each =
            λ q among. against_none q q.taken (all_taken (requests_for is_prepare d) both.1 q among)
            (none_against (requests_for is_prepare d) none q among);
      }

  commit_votes : (d : Account) (t : Current) (stamp : Stamp) → d.command ≡ Some commands.Commit → d.current ≡ Some t
      → stamp_of (commit_row decl d false t) ≡ Some stamp → IsVotedFor decl d t
  commit_votes d t stamp command current is =
      by t.doomed (are_votes_in decl d t) (first_against (requests_for is_prepare d)) refl refl is
    where
      by : (x y : Bool) (o : Option AbortCause) → are_votes_in decl d t ≡ y
          → first_against (requests_for is_prepare d) ≡ o
          → stamp_of (if x then Some (replies.Aborted causes.Doomed) else (if y then vote_row d false o else None))
          ≡ Some stamp → IsVotedFor decl d t
      by true y o all none e = none_some None stamp refl e
      by false false o all none e = none_some None stamp refl e
      by false true None all none e = voted d t command current all none
      by false true (Some why) all none e = none_some None stamp refl e

  pub due_votes : (d : Account) (stamp : Stamp) → running_row decl d false ≡ Some (replies.Committed stamp)
      → (t : Current) × IsVotedFor decl d t
  due_votes d stamp is = by d.command d.current refl refl (ap stamp_of is)
    where
      by : (c : Option Command) (t : Option Current) → d.command ≡ c → d.current ≡ t
          → stamp_of (option_and_then (row_of decl d false t) c) ≡ Some stamp → (t : Current) × IsVotedFor decl d t
      by None t at its e = none_some None stamp refl e
      by (Some commands.Begin) None at its e = none_some None stamp refl e
      by (Some (commands.Do object inv)) None at its e = none_some None stamp refl e
      by (Some commands.Commit) None at its e = none_some None stamp refl e
      by (Some commands.Abort) None at its e = none_some None stamp refl e
      by (Some (commands.Epoch number)) None at its e = none_some None stamp refl e
      by (Some commands.Begin) (Some t) at its e = none_some None stamp refl e
      by (Some (commands.Do object inv)) (Some t) at its e =
          none_some (stamp_of _) stamp (do_stamp decl d t object inv) e
      by (Some commands.Commit) (Some t) at its e = (t, commit_votes d t stamp at its e)
      by (Some commands.Abort) (Some t) at its e = none_some None stamp refl e
      by (Some (commands.Epoch number)) (Some t) at its e = none_some None stamp refl e

-- what is taken while votes are awaited changes no more than what was taken

pub record IsSameRequest (q p : ClientRequest) : Type 0 where
  pub site : p.site ≡ q.site
  pub life : p.life ≡ q.life
  pub want : p.want ≡ q.want

pub in_taken : (number : ℕ) (answer : Option Answer) (q : ClientRequest) (qs : List ClientRequest) → In q qs
    → (p : ClientRequest) × In p (taken_for number answer qs) × IsSameRequest q p
in_taken number answer q [] among = absurd among
in_taken number answer q (x ∷ qs) (inr later) = let r = in_taken number answer q qs later in (r.0, inr r.1, r.2)
in_taken number answer q (x ∷ qs) (inl same) = by (is_open number x) refl
  where
    by : (b : Bool) → is_open number x ≡ b
        → (p : ClientRequest) × In p (taken_for number answer (x ∷ qs)) × IsSameRequest q p
    by true at = (
      record x { taken = Some answer },
      inl (ap (λ (b : Bool). cond b (record x { taken = Some answer }) x) (sym at)),
      record {
        site = ap (λ (y : ClientRequest). y.site) (sym same);
        life = ap (λ (y : ClientRequest). y.life) (sym same);
        want = ap (λ (y : ClientRequest). y.want) (sym same);
      },
    )
    by false at = (
      x,
      inl (ap (λ (b : Bool). cond b (record x { taken = Some answer }) x) (sym at)),
      record {
        site = ap (λ (y : ClientRequest). y.site) (sym same);
        life = ap (λ (y : ClientRequest). y.life) (sym same);
        want = ap (λ (y : ClientRequest). y.want) (sym same);
      },
    )

pub record KeepsVotes (d e : Account) : Type 0 where
  pub current : e.current ≡ d.current
  pub command : e.command ≡ d.command
  pub client : e.client ≡ d.client
  pub requests : (q : ClientRequest) → In q d.requests → (p : ClientRequest) × In p e.requests × IsSameRequest q p

pub same_votes : (d : Account) → KeepsVotes d d
same_votes d =
    record {
      current = refl;
      command = refl;
      client = refl;
      requests = λ q among. (q, among, record { site = refl; life = refl; want = refl });
    }
