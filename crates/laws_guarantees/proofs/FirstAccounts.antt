-- A client that hears of no other life or epoch than the first names no other in its requests.
use Rattle.std.proofs.Common.{[], ◌≡◌, ℕ, ◌==◌, ◌&&◌, ◌⊎◌, inl, inr, not, Bool, true, false, cond, List, ◌∷◌, fold}
use Rattle.std.proofs.Common.{length, Option, Some, None, refl, ◌∙◌, eqb-true}
use Rattle.std.specs.List.{AllByRecursion as Every, find}
use Rattle.std.specs.Option.{option_map_or}
use Rattle.qc_stamp.specs.declared.stamp.TxId.{TxId}
use Rattle.qc_stamp.specs.Vocabulary.{first_life, same_tx}
use Rattle.qc_decl.specs.declared.declaration.Declaration.{Declaration}
use Rattle.qc_msg.specs.declared.begun.LifeAt.{LifeAt}
use Rattle.qc_msg.specs.declared.message.Message.{Message}
use Rattle.qc_msg.specs.declared.message.Message.TheVariants as messages
use Rattle.qc_msg.specs.declared.message.Want.{Want}
use Rattle.qc_msg.specs.declared.reply.Half.TheVariants as halves
use Rattle.qc_msg.specs.declared.reply.Half.{Half}
use Rattle.qc_msg.specs.declared.reply.Reply.{Reply}
use Rattle.qc_msg.specs.declared.step.Command.{Command}
use Rattle.qc_msg.specs.Vocabulary.{Deed, Falls, Rises, Sends, Takes, Tells, Writes, life_of, Requested, request_in}
use Rattle.qc_promise.specs.Vocabulary.{Account, Current, account_at, account_fallen, account_sent, account_taken}
use Rattle.qc_promise.specs.Vocabulary.{account_told, account_told_in, account_with, account_written, command_asks}
use Rattle.qc_promise.specs.Vocabulary.{doomed_if, found_absent, is_append, is_asked_for, is_of, new_account}
use Rattle.qc_promise.specs.Vocabulary.{refused, requests_for, short_of, with_absent}
use Rattle.laws_due.specs.Vocabulary.{AreByRows, IsSendDue}
use Rattle.laws_guarantees.specs.Vocabulary.{IsFirst}
use Rattle.laws_guarantees.proofs.FirstDeeds.{FirstLives, FirstCurrent, IsFirstAccount, changed, FirstGiven}
use Rattle.laws_guarantees.proofs.FirstDeeds.{taken_first, written_first, sent_first, responded_first}
use Rattle.laws_guarantees.proofs.AccountCases.{absent_cases, reply_cases}
use Rattle.std.specs.Prelude.{MatchOption}
use Rattle.qc_list.proofs.Booleans.{and_parts}

absent_first : (d : Account) (o : Option Command) → IsFirstAccount d → IsFirstAccount (found_absent d o)
absent_first d o f = absent_cases d IsFirstAccount f
    (λ object inv. changed d (λ (t : Current). with_absent t object inv) (λ t first. first) f) o

short_first : (d : Account) (half : Half) → IsFirstAccount d → IsFirstAccount (short_of d half)
short_first d halves.Read f = f
short_first d halves.Append f = changed d (doomed_if true) (λ t first. first) f
short_first d halves.Close f = f

refused_first : (d : Account) → IsFirstAccount d → IsFirstAccount (refused d)
refused_first d f = changed d (doomed_if (not (length (requests_for is_append d) == 0))) (λ t first. first) f

told_in_first : (decl : Declaration) (d : Account) (r : Reply) → IsFirstAccount d
    → IsFirstAccount (account_told_in decl d r)
told_in_first decl d r f = reply_cases decl d (λ r e. IsFirstAccount e) (λ r. f)
    (λ tx. record { known = f.known; current = (f.known, tt) }) (λ stamp. record { known = f.known; current = tt })
    (λ r. record { known = f.known; current = tt }) (λ r. refused_first d f) (λ r half. short_first d half f)
    (λ r. absent_first d d.command f) (λ r. responded_first decl d d.command f) r

reply_first : (decl : Declaration) (d : Account) (r : Reply) → IsFirstAccount d → IsFirstAccount (account_told decl d r)
reply_first decl d r f =
    let g : IsFirstAccount (account_told_in decl d r) = told_in_first decl d r f in
    record { known = g.known; current = g.current }

-- a request of the running command

life_first : (lives : List LifeAt) (site : ℕ) → FirstLives lives
    → (life_of lives site ≡ 0) ⊎ (life_of lives site ≡ first_life)
life_first [] site first = inl refl
life_first (l ∷ lives) site first = by (l.site == site) (life_first lives site first.1)
  where
    by : (t : Bool) → (life_of lives site ≡ 0) ⊎ (life_of lives site ≡ first_life)
        → (option_map_or (λ (l : LifeAt). l.life) (cond t (Some l) (find (λ (l : LifeAt). l.site == site) lives)) 0 ≡ 0)
        ⊎ (option_map_or (λ (l : LifeAt). l.life) (cond t (Some l) (find (λ (l : LifeAt). l.site == site) lives)) 0
        ≡ first_life)
    by true rest = inr first.0
    by false rest = rest

asked_first : (decl : Declaration) (d : Account) (to : ℕ) (tx : TxId) (epoch life : ℕ) (want : Want) → IsFirstAccount d
    → is_asked_for decl d to tx epoch life want ≡ true → IsFirst (messages.Request tx epoch life want)
asked_first decl d to tx epoch life want f is = by d.current f.current is
  where
    by : (o : Option Current) → FirstCurrent o
        → option_map_or (λ (t : Current). is_of t to tx epoch life && command_asks decl d t to want d.command) o false
        ≡ true → IsFirst (messages.Request tx epoch life want)
    by None first never = absurd (let no : ⊥ = cc in no)
    by (Some t) first now =
        let mine : (is_of t to tx epoch life ≡ true) × (command_asks decl d t to want d.command ≡ true) =
        and_parts (is_of t to tx epoch life) (command_asks decl d t to want d.command) now in
        let rest : (same_tx t.tx tx ≡ true) × (((epoch == t.epoch) && (life == life_of t.lives to)) ≡ true) =
        and_parts (same_tx t.tx tx) ((epoch == t.epoch) && (life == life_of t.lives to)) mine.0 in
        let named : ((epoch == t.epoch) ≡ true) × ((life == life_of t.lives to) ≡ true) =
        and_parts (epoch == t.epoch) (life == life_of t.lives to) rest.1 in
        let lived : life ≡ life_of t.lives to = eqb-true life (life_of t.lives to) named.1 in
        (eqb-true epoch t.epoch named.0 ∙ first.0, known lived (life_first t.lives to first.1))
      where
        known : life ≡ life_of t.lives to → (life_of t.lives to ≡ 0) ⊎ (life_of t.lives to ≡ first_life)
            → (life ≡ 0) ⊎ (life ≡ first_life)
        known same (inl none) = inl (same ∙ none)
        known same (inr one) = inr (same ∙ one)

-- over all that a client does

abbrev pub RequestIsFirst : Message → Type 0
RequestIsFirst m = MatchOption (request_in m) (Unit {0})
    (λ (q : Requested). IsFirst (messages.Request q.tx q.epoch q.life q.want))

abbrev pub TakesFirst : Deed → Type 0
TakesFirst (Takes g) = FirstGiven g
TakesFirst (Writes written) = Unit {0}
TakesFirst (Sends number to message) = Unit {0}
TakesFirst (Tells reply) = Unit {0}
TakesFirst (Falls cause pending) = Unit {0}
TakesFirst (Rises records) = Unit {0}

abbrev pub SendsFirst : Deed → Type 0
SendsFirst (Takes g) = Unit {0}
SendsFirst (Writes written) = Unit {0}
SendsFirst (Sends number to message) = RequestIsFirst message
SendsFirst (Tells reply) = Unit {0}
SendsFirst (Falls cause pending) = Unit {0}
SendsFirst (Rises records) = Unit {0}

sent_is : (decl : Declaration) (d : Account) (to : ℕ) (m : Message) → IsFirstAccount d → IsSendDue decl d to m
    → RequestIsFirst m
sent_is decl d to m f due = by (request_in m) due
  where
    by : (o : Option Requested)
        → MatchOption o (Unit {0}) (λ (q : Requested). is_asked_for decl d to q.tx q.epoch q.life q.want ≡ true)
        → MatchOption o (Unit {0}) (λ (q : Requested). IsFirst (messages.Request q.tx q.epoch q.life q.want))
    by None asked = tt
    by (Some q) asked = asked_first decl d to q.tx q.epoch q.life q.want f asked

pub deeds_first : (decl : Declaration) (d : Account) (ds : List Deed) → IsFirstAccount d → AreByRows decl d ds
    → Every TakesFirst ds → Every SendsFirst ds
deeds_first decl d [] f due all = tt
deeds_first decl d (Takes g ∷ ds) f due all =
    (tt, deeds_first decl (account_taken d g) ds (taken_first d g all.0 f) due.1 all.1)
deeds_first decl d (Writes w ∷ ds) f due all =
    (tt, deeds_first decl (account_written d w) ds (written_first d w f) due.1 all.1)
deeds_first decl d (Sends n to m ∷ ds) f due all = (
  sent_is decl d to m f due.0,
  deeds_first decl (account_sent decl d n to m) ds (sent_first decl d n to m f) due.1 all.1,
)
deeds_first decl d (Tells r ∷ ds) f due all =
    (tt, deeds_first decl (account_told decl d r) ds (reply_first decl d r f) due.1 all.1)
deeds_first decl d (Falls cause pending ∷ ds) f due all = absurd due.0
deeds_first decl d (Rises kept ∷ ds) f due all = absurd due.0

pub account_first : (decl : Declaration) (d : Account) (ds : List Deed) → IsFirstAccount d → Every TakesFirst ds
    → IsFirstAccount (fold (account_at decl) d ds)
account_first decl d [] f all = f
account_first decl d (Takes g ∷ ds) f all = account_first decl (account_taken d g) ds (taken_first d g all.0 f) all.1
account_first decl d (Writes w ∷ ds) f all = account_first decl (account_written d w) ds (written_first d w f) all.1
account_first decl d (Sends n to m ∷ ds) f all =
    account_first decl (account_sent decl d n to m) ds (sent_first decl d n to m f) all.1
account_first decl d (Tells r ∷ ds) f all = account_first decl (account_told decl d r) ds (reply_first decl d r f) all.1
account_first decl d (Falls cause pending ∷ ds) f all =
    account_first decl (account_fallen d) ds (record { known = f.known; current = tt }) all.1
account_first decl d (Rises kept ∷ ds) f all =
    account_first decl (account_with d.client kept) ds (record { known = refl; current = tt }) all.1

pub new_first : (client : ℕ) → IsFirstAccount (new_account client)
new_first client = record { known = refl; current = tt }
