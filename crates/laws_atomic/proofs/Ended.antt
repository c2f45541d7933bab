-- A reply is due only where no request of the command is open.
use Rattle.std.proofs.Common.{[], ◌≡◌, ℕ, ◌==◌, ◌&&◌, nat_le, Bool, true, false, cond, List, filter, length, map}
use Rattle.std.proofs.Common.{Option, Some, None, refl, sym, ap, ◌∙◌, subst}
use Rattle.std.specs.Prelude.{is_some, option_and_then}
use Rattle.std.specs.List.{AllByRecursion as Every, find, list_all}
use Rattle.qc_list.specs.Vocabulary.{In}
use Rattle.qc_list.proofs.Members.{In-filter, every-In}
use Rattle.qc_decl.specs.Vocabulary.{append_need_of, most_transaction_operations, read_need_of}
use Rattle.qc_decl.specs.declared.declaration.Declaration.{Declaration}
use Rattle.qc_msg.specs.declared.message.Answer.{Answer}
use Rattle.qc_msg.specs.declared.message.Want.{Want}
use Rattle.qc_msg.specs.declared.reply.Reply.{Reply}
use Rattle.qc_msg.specs.declared.reply.Reply.TheVariants as replies
use Rattle.qc_msg.specs.declared.reply.AbortCause.TheVariants as causes
use Rattle.qc_msg.specs.declared.step.Command.{Command}
use Rattle.qc_msg.specs.declared.step.Command.TheVariants as commands
use Rattle.qc_plan.specs.Vocabulary.{RoundState, all_noted, verdict}
use Rattle.qc_promise.specs.Vocabulary.{Account, ClientRequest, Current, answer_of, answer_row, append_row}
use Rattle.qc_promise.specs.Vocabulary.{are_votes_in, asked_by, counted, counted_for, first_against, is_append, is_open}
use Rattle.qc_promise.specs.Vocabulary.{is_prepare, is_read, participants, read_row, requests_for, round_of, row_of}
use Rattle.qc_promise.specs.Vocabulary.{running_row, taken_for, told_by, vote_row}
use Rattle.qc_entry.specs.declared.line.Op.{Op}
use Rattle.laws_due.specs.Vocabulary.{IsDo, IsOpenIn}
use Rattle.laws_due.proofs.Halves.{waiting_verdict}
use Rattle.laws_due.proofs.Nothing.{do_row_is}
use Rattle.laws_due.proofs.OpenRequests.{IsFound, every_taken, found}
use Rattle.laws_atomic.proofs.Counted.{AreSame, IsSame, IsTold, told, untaken_is}
use Rattle.laws_atomic.proofs.Waiting.{NoneOpen, noted_none, taken_none, round_with, DoesRead, DoesAppend, asks_none}
use Rattle.laws_atomic.proofs.Waiting.{does_read, does_append, does_commit, DoesCommit, Goes}
use Rattle.laws_due.proofs.Hears.{reads_kept}

-- and once something is taken

module _ (decl : Declaration) (n : ℕ) (answer : Option Answer) (d : Account) where
  abbrev noted : Account
  noted = record d { requests = taken_for n answer d.requests }

  record HasNow (w : Want) (t : Current) (o : Option Current) : Type 0 where
    now : Current
    is : o ≡ Some now
    same : IsSame w t now

  now_of : (w : Want) (t : Current) (o p : Option Current) → o ≡ Some t → AreSame w o p → HasNow w t p
  now_of w t None None is same = absurd (let never : ⊥ = cc in never)
  now_of w t None (Some now) is same = absurd same
  now_of w t (Some u) None is same = absurd same
  now_of w t (Some u) (Some now) is same =
      record { now = now; is = refl; same = (let e : u ≡ t = cc in subst (λ (x : Current). IsSame w x now) e same) }

  same_do : (w : Want) (e : Account) (t now : Current) (object inv : ℕ) → IsTold w noted e → e.current ≡ Some now
      → IsSame w t now → IsDo d t object inv → IsDo e now object inv
  same_do w e t now object inv i is same r = record {
    command = i.command ∙ r.command;
    current = is;
    written = i.written ∙ r.written;
    live = same.doomed ∙ r.live;
    room = ap (λ (v : List Op). nat_le most_transaction_operations (length v)) same.ops ∙ r.room;
  }

  module _ (q : ClientRequest) (is_it : find (is_open n) d.requests ≡ Some q) (e : Account)
      (i : IsTold q.want noted e) where
    reads_on : DoesRead d → DoesRead e
    reads_on r =
        let h : HasNow q.want r.t e.current = now_of q.want r.t d.current e.current r.runs.current i.current in
        record {
          object = r.object;
          inv = r.inv;
          t = h.now;
          runs = same_do q.want e r.t h.now r.object r.inv i h.is h.same r.runs;
          all =
              subst (λ (qs : List ClientRequest). Every (λ (x : ClientRequest). is_read x.want ≡ true) qs)
              (sym i.requests)
              (every_taken (λ (x : ClientRequest). is_read x.want ≡ true) n answer (λ x y. y) d.requests r.all);
        }

    appends_on : DoesAppend decl d → DoesAppend decl e
    appends_on r =
        let h : HasNow q.want r.t e.current = now_of q.want r.t d.current e.current r.runs.current i.current in
        let f : IsFound n d.requests q = found n d.requests q is_it in
        let appending : is_append q.want ≡ true =
        every-In (IsOpenIn is_append) q d.requests r.all f.among f.open_still in
        record {
          object = r.object;
          inv = r.inv;
          event = r.event;
          t = h.now;
          runs = same_do q.want e r.t h.now r.object r.inv i h.is h.same r.runs;
          met =
              (λ k. verdict (round_with decl (i.client k) (h.same.epoch k)
              (read_need_of decl (h.same.epoch k) r.object r.inv)
              ((ap (λ (qs : List ClientRequest). filter (λ (x : ClientRequest). is_read x.want) qs) i.requests
              ∙ reads_kept n answer d.requests r.all) k))) ∙ r.met;
          chosen =
              (λ k. answer_of decl (record r.t { read_grants = h.same.grants appending k; own = h.same.own k }) r.object
              r.inv) ∙ r.chosen;
          all =
              subst (λ (qs : List ClientRequest). Every (IsOpenIn is_append) qs) (sym i.requests)
              (every_taken (IsOpenIn is_append) n answer (λ x y. λ open_still. absurd (let never : ⊥ = cc in never))
              d.requests r.all);
        }

    commits_on : DoesCommit d → DoesCommit e
    commits_on r =
        let h : HasNow q.want r.t e.current = now_of q.want r.t d.current e.current r.current i.current in
        record {
          t = h.now;
          command = i.command ∙ r.command;
          current = h.is;
          live = h.same.doomed ∙ r.live;
          all =
              subst (λ (qs : List ClientRequest). Every (λ (x : ClientRequest). is_prepare x.want ≡ true) qs)
              (sym i.requests)
              (every_taken (λ (x : ClientRequest). is_prepare x.want ≡ true) n answer (λ x y. y) d.requests r.all);
        }

    goes_on : Goes decl d → Goes decl e
    goes_on (asks_none none) =
        absurd (let never : find (is_open n) [] ≡ Some q =
        subst (λ (qs : List ClientRequest). find (is_open n) qs ≡ Some q) none is_it in
        let no : ⊥ = cc in no)
    goes_on (does_read r) = does_read (reads_on r)
    goes_on (does_append r) = does_append (appends_on r)
    goes_on (does_commit r) = does_commit (commits_on r)

  pub counted_goes : Goes decl d → Goes decl (counted d n answer)
  counted_goes g = by (find (is_open n) d.requests) refl
    where
      by : (o : Option ClientRequest) → find (is_open n) d.requests ≡ o → Goes decl (counted_for d n answer o)
      by None is = g
      by (Some q) is = goes_on q is (told_by noted q answer) (told noted q answer) g

-- a reply that is due

in_half : (half : Want → Bool) (qs : List ClientRequest) (q : ClientRequest) → In q qs → half q.want ≡ true
    → In q (filter (λ (x : ClientRequest). half x.want) qs)
in_half half qs q among is = In-filter (λ (x : ClientRequest). half x.want) q qs among is

module _ (decl : Declaration) (d : Account) (reply : Reply) (is_due : running_row decl d false ≡ Some reply) where
  reads_done : DoesRead d → NoneOpen d.requests
  reads_done r = by (all_noted round.asked) refl
    where
      round : RoundState
      round = round_of decl d r.t is_read (read_need_of decl r.t.epoch r.object r.inv)

      by : (b : Bool) → all_noted (map asked_by (requests_for is_read d)) ≡ b → NoneOpen d.requests
      by true noted q among is =
          noted_none (requests_for is_read d) noted q
          (in_half is_read d.requests q among
          (every-In (λ (x : ClientRequest). is_read x.want ≡ true) q d.requests r.all among)) is
      by false waits q among is =
          let none : running_row decl d false ≡ None =
          do_row_is decl d r.t r.object r.inv r.runs
          ∙ ap (read_row decl d r.t r.object r.inv)
          (waiting_verdict (round_of decl d r.t is_read (read_need_of decl r.t.epoch r.object r.inv)) waits) in
          let never : ⊥ = cc in never

  appends_done : DoesAppend decl d → NoneOpen d.requests
  appends_done r = by (all_noted (map asked_by (requests_for is_append d))) refl
    where
      by : (b : Bool) → all_noted (map asked_by (requests_for is_append d)) ≡ b → NoneOpen d.requests
      by true noted q among is =
          noted_none (requests_for is_append d) noted q
          (in_half is_append d.requests q among
          (every-In (IsOpenIn is_append) q d.requests r.all among (untaken_is q is))) is
      by false waits q among is =
          let none : running_row decl d false ≡ None =
          do_row_is decl d r.t r.object r.inv r.runs ∙ ap (read_row decl d r.t r.object r.inv) r.met
          ∙ ap (answer_row decl d r.t r.object) r.chosen
          ∙ ap (append_row decl r.object r.event)
          (waiting_verdict (round_of decl d r.t is_append (append_need_of decl r.t.epoch r.object r.event)) waits)
          in
          let never : ⊥ = cc in never

  commits_done : DoesCommit d → NoneOpen d.requests
  commits_done r = by (list_all (λ (q : ClientRequest). is_some q.taken) (requests_for is_prepare d)) refl
    where
      last_false : (z : Bool) → (z && false) ≡ false
      last_false true = refl
      last_false false = refl

      row : running_row decl d false
          ≡ cond (are_votes_in decl d r.t) (vote_row d false (first_against (requests_for is_prepare d))) None
      row =
          ap (λ (o : Option Command). option_and_then (row_of decl d false d.current) o) r.command
          ∙ ap (λ (o : Option Current). row_of decl d false o commands.Commit) r.current
          ∙ ap
          (λ (b : Bool). cond b (Some (replies.Aborted causes.Doomed))
          (cond (are_votes_in decl d r.t) (vote_row d false (first_against (requests_for is_prepare d))) None))
          r.live

      by : (b : Bool) → list_all (λ (q : ClientRequest). is_some q.taken) (requests_for is_prepare d) ≡ b
          → NoneOpen d.requests
      by true in_are q among is =
          taken_none (requests_for is_prepare d) in_are q
          (in_half is_prepare d.requests q among
          (every-In (λ (x : ClientRequest). is_prepare x.want ≡ true) q d.requests r.all among)) is
      by false waits q among is =
          let out : are_votes_in decl d r.t ≡ false =
          ap (λ (b : Bool). (length (participants decl d r.t) == length (requests_for is_prepare d)) && b) waits
          ∙ last_false (length (participants decl d r.t) == length (requests_for is_prepare d)) in
          let none : running_row decl d false ≡ None =
          row ∙ ap (λ (b : Bool). cond b (vote_row d false (first_against (requests_for is_prepare d))) None) out in
          let never : ⊥ = cc in never

  pub none_open : Goes decl d → NoneOpen d.requests
  none_open (asks_none none) q among is = subst (λ (qs : List ClientRequest). In q qs) none among
  none_open (does_read r) q among is = reads_done r q among is
  none_open (does_append r) q among is = appends_done r q among is
  none_open (does_commit r) q among is = commits_done r q among is
