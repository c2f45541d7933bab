-- What a site would promise of a transaction that is voted on fits a record.
use Rattle.std.proofs.Common.{◌*◌, ◌≡◌, ◌≤◌, ◌<◌, ◌+◌, ◌-◌, ℕ, suc, nat_le, not, true, List, [], ◌∷◌, ◌++◌, inl, inr}
use Rattle.std.proofs.Common.{length, length-append, Option, Some, None, slice_get, refl, sym, ap, ◌∙◌, subst, arith}
use Rattle.std.specs.Prelude.{sum_by, count_by, option_and_then, MatchOption}
use Rattle.std.proofs.lemmas.Bool.{le-leb}
use Rattle.std.proofs.lemmas.List.{length-map}
use Rattle.std.proofs.lemmas.List.Sums.{count_by-le-length, length-filter}
use Rattle.qc_list.specs.Vocabulary.{In}
use Rattle.qc_entry.specs.declared.line.Line.{Line}
use Rattle.qc_entry.specs.declared.line.Op.{Op}
use Rattle.qc_entry.specs.declared.line.OwnLine.{OwnLine}
use Rattle.qc_entry.specs.declared.line.ReadLock.{ReadLock}
use Rattle.qc_entry.specs.declared.record.Commit.{Commit as CommitRecord}
use Rattle.qc_entry.specs.Vocabulary.{has_line, without}
use Rattle.qc_entry.proofs.Union.{in_second}
use Rattle.qc_decl.specs.declared.declaration.Declaration.{Declaration}
use Rattle.qc_decl.specs.Vocabulary.{IsAccepted, is_client, is_site, most_committed_operations, most_record_bytes}
use Rattle.qc_lock.specs.Vocabulary.{held_of}
use Rattle.qc_lock.proofs.Order.{sorted-find}
use Rattle.qc_msg.specs.declared.message.Envelope.{Envelope}
use Rattle.qc_msg.specs.declared.message.Message.{Message}
use Rattle.qc_msg.specs.declared.message.Want.{Want}
use Rattle.qc_msg.specs.declared.message.Want.TheVariants.{Read, Append, Prepare}
use Rattle.qc_msg.specs.Vocabulary.{answered, Requested, request_in}
use Rattle.theory_onecopy.specs.Vocabulary.{Executed, own_line}
use Rattle.theory_machine.specs.Vocabulary.{AreInOrder, IsExecutedOrChosen, IsOwnClosedAt, LogLaws, Voting as IsVoting}
use Rattle.theory_machine.specs.Vocabulary.{items_of, op_of, site_after, state}
use Rattle.theory_machine.proofs.Keeps.{laws}
use Rattle.theory_machine.proofs.LogKeeps.{log_laws}
use Rattle.qc_commit.specs.declared.desk.Voting.{Voting}
use Rattle.qc_front.specs.declared.doing.Doing.{Doing}
use Rattle.qc_front.specs.declared.doing.Doing.TheVariants.{Idle}
use Rattle.qc_front.specs.declared.transaction.Transaction.{Transaction}
use Rattle.qc_front.specs.Vocabulary.{BegunHolds}
use Rattle.qc_site.specs.Vocabulary.{IsSiteSorted, prepare_length, promise_of}
use Rattle.laws_refinement.specs.Vocabulary.{AreVotes, BegunMirrors, FrontStands, IsNamedAt, Net, Refines}
use Rattle.laws_refinement.specs.Vocabulary.{RunningMirrors, TransactionMirrors, VotesMirror, status_by}
use Rattle.laws_atomic.proofs.Calm.{IsCalm, all_up, is_reached}
use Rattle.laws_refinement.proofs.NetLaws.{site_lines}
use Rattle.laws_refinement.proofs.Refining.{nets_refine}
use Rattle.laws_refinement.proofs.Standing.{front_ends_stand}
use Rattle.laws_guarantees.proofs.Lengths.{key, lock_count, log_count, own_count}
use Rattle.laws_guarantees.proofs.NetHolds.{WasAsked, locks_asked, sites_sorted}
use Rattle.qc_list.proofs.Places.{place_within}

-- each Read that was sent names what is declared

abbrev pub IsNamedWant : Declaration → Want → Type 0
IsNamedWant decl (Read read) = IsNamedAt decl read.object read.inv
IsNamedWant decl (Append object view own) = Unit {0}
IsNamedWant decl Prepare = Unit {0}

abbrev pub IsNamedMessage : Declaration → Message → Type 0
IsNamedMessage decl m = MatchOption (request_in m) (Unit {0}) (λ (q : Requested). IsNamedWant decl q.want)

abbrev pub AreNamedMessages : Declaration → List Envelope → Type 0
AreNamedMessages decl mail = (e : Envelope) → In e mail → IsNamedMessage decl e.message

-- an operation's number is no greater than the number of operations
pub numbered_within : (ds earlier : List Executed) (d : Executed) → AreInOrder earlier ds → In d ds
    → d.number ≤ length earlier + length ds
numbered_within [] earlier d order among = absurd among
numbered_within (x ∷ xs) earlier d order (inl same) =
    let n : x.number ≡ suc (length earlier) = order.0.numbered in
    let e : d.number ≡ x.number = ap (λ (y : Executed). y.number) same in
    omega arith
numbered_within (x ∷ xs) earlier d order (inr there) =
    let rest : d.number ≤ length (earlier ++ x ∷ []) + length xs =
    numbered_within xs (earlier ++ x ∷ []) d order.1 there in
    let l : length (earlier ++ x ∷ []) ≡ length earlier + 1 = length-append earlier (x ∷ []) in
    omega arith

module _ (decl : Declaration) (accepted : IsAccepted decl) (net : Net) (calm : IsCalm decl net) where
  pub m : Refines decl net
  m = nets_refine decl accepted net (is_reached decl net calm)

  -- of a transaction that is voted on

  pub votes_of : (a : ℕ) (t : Transaction) (v : Voting) → is_client decl a ≡ true
      → (net.clients a).front.transaction ≡ Some t → (net.clients a).desk.voting ≡ Some v
      → TransactionMirrors (state m.acts) (net.clients a).front t × ((state m.acts).status t.begun.tx ≡ IsVoting)
      × VotesMirror (state m.acts) net.mail (net.clients a) t v
  votes_of a t v client is voting =
      let h : TransactionMirrors (state m.acts) (net.clients a).front t
      × RunningMirrors decl (state m.acts) net.mail (net.clients a) t =
      subst (λ (o : Option Transaction). BegunMirrors decl (state m.acts) net.mail (net.clients a) o) is
      (m.agrees.clients a client (all_up decl net calm a)).begun in (
        h.0,
        h.1.status_is ∙ ap status_by voting,
        subst (λ (o : Option Voting). AreVotes (state m.acts) net.mail (net.clients a) t o) voting h.1.votes,
      )

  few_operations : (a : ℕ) (t : Transaction) → (net.clients a).front.transaction ≡ Some t
      → (net.clients a).front.doing ≡ Idle → length t.begun.ops ≤ 16
  few_operations a t is idle =
      let s : FrontStands decl net a = front_ends_stand decl net (is_reached decl net calm) a in
      let h : BegunHolds decl (net.clients a).front.client (Some t) Idle =
      subst (λ (d : Doing). BegunHolds decl (net.clients a).front.client (Some t) d) idle
      (subst (λ (o : Option Transaction). BegunHolds decl (net.clients a).front.client o
      (net.clients a).front.doing) is s.holds) in
      h.1

  module _ (a : ℕ) (t : Transaction) (v : Voting) (client : is_client decl a ≡ true)
      (is : (net.clients a).front.transaction ≡ Some t) (voting : (net.clients a).desk.voting ≡ Some v) (site : ℕ)
      (place : is_site decl site ≡ true) where
    votes : TransactionMirrors (state m.acts) (net.clients a).front t × ((state m.acts).status t.begun.tx ≡ IsVoting)
        × VotesMirror (state m.acts) net.mail (net.clients a) t v
    votes = votes_of a t v client is voting

    own_low : (o : OwnLine) → In o (held_of (net.sites site).held t.begun.tx).own → o.op ≤ 16
    own_low o among =
        let l : LogLaws decl (state m.acts) = log_laws decl accepted m.acts m.run in
        let c : IsOwnClosedAt decl (state m.acts).executed (state m.acts).chosen t.begun.tx
        (site_after ((state m.acts).deeds site)).volatile
        (items_of t.begun.tx (site_after ((state m.acts).deeds site)).held) o =
        (l.sites site).own_closed t.begun.tx o ((m.agrees.sites site place (all_up decl net calm site)).owned t.begun.tx
        o among) in
        by c.operation c.is c.known
      where
        count : length ((state m.acts).executed t.begun.tx) ≡ length t.begun.ops
        count = sym (ap (λ (ops : List Op). length ops) votes.0.ops
            ∙ length-map ((state m.acts).executed t.begun.tx) op_of)

        by : (d : Executed) → o ≡ own_line d → IsExecutedOrChosen ((state m.acts).executed t.begun.tx)
            ((state m.acts).chosen t.begun.tx) d → o.op ≤ 16
        by d same (inl executed) =
            let n : d.number ≤ 0 + length ((state m.acts).executed t.begun.tx) =
            numbered_within ((state m.acts).executed t.begun.tx) [] d
            ((log_laws decl accepted m.acts m.run).order t.begun.tx) executed in
            let e : o.op ≡ d.number = ap (λ (x : OwnLine). x.op) same in
            let few : length t.begun.ops ≤ 16 = few_operations a t is votes.2.idle in
            let c : length ((state m.acts).executed t.begun.tx) ≡ length t.begun.ops = count in
            omega arith
        by d same (inr chosen) = absurd (let none : (state m.acts).chosen t.begun.tx ≡ None =
            (laws decl m.acts m.run).quiet t.begun.tx votes.1 in let never : ⊥ = cc in never)

    sorted : IsSiteSorted (net.sites site)
    sorted = sites_sorted decl accepted net calm site

    own_few : length (held_of (net.sites site).held t.begun.tx).own ≤ 17
    own_few =
        let n : length (held_of (net.sites site).held t.begun.tx).own ≤ (16 + 1) - 0 =
        own_count (held_of (net.sites site).held t.begun.tx).own 0 16
        (sorted-find (net.sites site).held t.begun.tx sorted.held.sorted).1
        (λ o among. (omega arith, own_low o among)) in
        omega arith

    -- a declared object, and an invocation of its type
    named_low : (object inv : ℕ) → IsNamedAt decl object inv → (object < 16) × (inv < 32)
    named_low object inv n = by (slice_get decl.objects object) refl n.1
      where
        by : (o : Option ℕ) → slice_get decl.objects object ≡ o → option_and_then (slice_get decl.kinds) o ≡ Some n.0
            → (object < 16) × (inv < 32)
        by None none found = absurd (let never : ⊥ = cc in never)
        by (Some number) at found =
            let place : object < length decl.objects = place_within decl.objects object number at in
            let objects : length decl.objects ≤ 16 = accepted.objects in
            let low : inv < n.0.table.invs = n.2 in
            let invs : n.0.table.invs ≤ 32 = (accepted.right number n.0 found).sound.invs in
            (omega arith, omega arith)

    locks_few : AreNamedMessages decl net.mail → length (held_of (net.sites site).held t.begun.tx).locks ≤ 512
    locks_few named =
        let n : length (held_of (net.sites site).held t.begun.tx).locks ≤ 512 - 0 =
        lock_count (held_of (net.sites site).held t.begun.tx).locks 0
        (sorted-find (net.sites site).held t.begun.tx sorted.held.sorted).0
        (λ l among. low l (locks_asked decl accepted net calm site t.begun.tx l among)) in
        omega arith
      where
        low : (l : ReadLock) → WasAsked decl accepted net.mail t.begun.tx l
            → (0 ≤ key l) × (l.object < 16) × (l.inv < 32)
        low l w =
            let n : IsNamedAt decl l.object l.inv = subst (IsNamedMessage decl) w.asks.3 (named w.envelope w.sent) in
            let b : (l.object < 16) × (l.inv < 32) = named_low l.object l.inv n in
            (omega arith, b.0, b.1)

    lines_few : (most : ℕ) → sum_by (λ (c : CommitRecord). answered c.ops) net.written ≤ most
        → length (without (net.sites site).log (net.sites site).recorded) ≤ most
    lines_few most few =
        let whole : length (net.sites site).log ≤ sum_by (λ (c : CommitRecord). answered c.ops) net.written =
        log_count decl net.written (net.sites site).log
        (m.agrees.sites site place (all_up decl net calm site)).sorted.1
        (λ l among. site_lines decl accepted net (is_reached decl net calm) site l place (all_up decl net calm site)
        (in_second l (net.sites site).began (net.sites site).log among)) in
        let part : length (without (net.sites site).log (net.sites site).recorded) ≡ count_by
        (λ (l : Line). not (has_line (net.sites site).recorded l)) (net.sites site).log =
        length-filter (λ (l : Line). not (has_line (net.sites site).recorded l)) (net.sites site).log in
        let less : count_by (λ (l : Line). not (has_line (net.sites site).recorded l)) (net.sites site).log ≤ length
        (net.sites site).log = count_by-le-length (λ (l : Line). not (has_line (net.sites site).recorded l))
        (net.sites site).log in
        omega arith

    -- with at most twice the limit of committed operations, the promise fits
    pub promise_fits : AreNamedMessages decl net.mail
        → sum_by (λ (c : CommitRecord). answered c.ops) net.written ≤ 2 * most_committed_operations
        → nat_le (prepare_length (promise_of (net.sites site) t.begun.tx)) most_record_bytes ≡ true
    promise_fits named few =
        let locks : length (held_of (net.sites site).held t.begun.tx).locks ≤ 512 = locks_few named in
        let own : length (held_of (net.sites site).held t.begun.tx).own ≤ 17 = own_few in
        let lines : length (without (net.sites site).log (net.sites site).recorded) ≤ 2 * most_committed_operations =
        lines_few (2 * most_committed_operations) few in
        le-leb (prepare_length (promise_of (net.sites site) t.begun.tx)) most_record_bytes (omega arith)
