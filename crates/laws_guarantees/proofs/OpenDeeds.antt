-- By the deeds of a client: what is open at a site is the begun transaction, which knows that it asked the site.
use Rattle.std.proofs.Common.{◌≡◌, ℕ, ◌+◌, ◌-◌, Bool, true, false, List, [], ◌∷◌, ◌++◌, fold, Option, Some, None, refl}
use Rattle.std.proofs.Common.{sym, ap, ◌∙◌, subst}
use Rattle.std.specs.List.{AllByRecursion as Every}
use Rattle.std.proofs.lemmas.List.Sums.{fold-append}
use Rattle.qc_stamp.specs.declared.stamp.TxId.{TxId}
use Rattle.qc_decl.specs.Vocabulary.{IsAccepted, is_client, is_site}
use Rattle.qc_decl.specs.declared.declaration.Declaration.{Declaration}
use Rattle.qc_msg.specs.declared.message.Message.{Message}
use Rattle.qc_msg.specs.declared.message.Want.TheVariants.{Append, Prepare, Read}
use Rattle.qc_msg.specs.declared.record.Record.{Record}
use Rattle.qc_msg.specs.declared.reply.Reply.{Reply}
use Rattle.qc_msg.specs.declared.turn.Posting.{Posting}
use Rattle.qc_msg.specs.declared.turn.Turn.{Turn}
use Rattle.qc_msg.specs.Vocabulary.{Deed, Falls, Rises, Sends, Takes, Tells, Writes, quiet, sends_of, tells_of}
use Rattle.qc_msg.specs.Vocabulary.{turn_deeds, writes_of, Requested, request_in}
use Rattle.qc_front.specs.declared.transaction.Transaction.{Transaction}
use Rattle.qc_client.specs.declared.client.Client.{Client}
use Rattle.qc_client.specs.Vocabulary.{ClientMove, client_after, client_does, client_takes, moved, new_client, sent_one}
use Rattle.qc_core.specs.Vocabulary.{Acts, posts, starts, takes}
use Rattle.qc_promise.specs.Vocabulary.{Account, account_at, new_account}
use Rattle.laws_due.specs.Vocabulary.{Ties}
use Rattle.laws_due.proofs.Courses.{accounts_are_their_clients}
use Rattle.laws_turns.proofs.Bounding.{lawful_turn, turn-posts}
use Rattle.laws_turns.proofs.ClientsWithin.{IsPost}
use Rattle.laws_turns.proofs.InRuns.{IsResting, deals_acts}
use Rattle.laws_guarantees.specs.Vocabulary.{name_of}
use Rattle.laws_guarantees.proofs.AskedClients.{input_keeps}
use Rattle.laws_guarantees.proofs.SitesTold.{HasAsked, open_posted, open_sent}
use Rattle.laws_guarantees.proofs.Names.{front_name, taken_named, tied_named}
use Rattle.qc_client.specs.Conduct.{requested}
use Rattle.std.specs.Option.{option_map_or}
use Rattle.qc_msg.specs.declared.message.Want.{Want}

-- whether a transaction is open at a site, by what a client sent

abbrev pub open_did : ℕ → TxId → Bool → Deed → Bool
open_did s x before (Takes given) = before
open_did s x before (Writes written) = before
open_did s x before (Sends number to message) = open_sent s x before to message
open_did s x before (Tells reply) = before
open_did s x before (Falls cause pending) = before
open_did s x before (Rises records) = before

abbrev pub open_done : ℕ → TxId → List Deed → Bool
open_done s x ds = fold (open_did s x) false ds

pub sends_done : (s : ℕ) (x : TxId) (before : Bool) (n : ℕ) (ps : List Posting)
    → fold (open_did s x) before (sends_of n ps) ≡ open_posted s x before ps
sends_done s x before n [] = refl
sends_done s x before n (p ∷ ps) = sends_done s x (open_sent s x before p.to p.message) (n + 1) ps

pub turn_done : (s : ℕ) (x : TxId) (before : Bool) (n : ℕ) (turn : Turn)
    → fold (open_did s x) before (turn_deeds n turn) ≡ open_posted s x before turn.sends
turn_done s x before n turn =
    fold-append (open_did s x) before (writes_of turn.write) (sends_of n turn.sends ++ tells_of turn.told)
    ∙ ap (λ (was : Bool). fold (open_did s x) was (sends_of n turn.sends ++ tells_of turn.told)) (unwritten turn.write)
    ∙ fold-append (open_did s x) before (sends_of n turn.sends) (tells_of turn.told)
    ∙ ap (λ (was : Bool). fold (open_did s x) was (tells_of turn.told)) (sends_done s x before n turn.sends)
    ∙ untold (open_posted s x before turn.sends) turn.told
  where
    unwritten : (o : Option Record) → fold (open_did s x) before (writes_of o) ≡ before
    unwritten None = refl
    unwritten (Some w) = refl

    untold : (was : Bool) (o : Option Reply) → fold (open_did s x) was (tells_of o) ≡ was
    untold was None = refl
    untold was (Some reply) = refl

-- the numbers of messages change nothing of the transaction

transaction_one : (c : Client) (number to : ℕ) (message : Message)
    → (sent_one c number to message).front.transaction ≡ c.front.transaction
transaction_one c number to message = by (request_in message)
  where
    want : (w : Want) → (requested c number to w).front.transaction ≡ c.front.transaction
    want (Read read) = refl
    want (Append object view own) = refl
    want Prepare = refl

    by : (o : Option Requested)
        → (option_map_or (λ (q : Requested). requested c number to q.want) o c).front.transaction
        ≡ c.front.transaction
    by None = refl
    by (Some q) = want q.want

transaction_posts : (decl : Declaration) (m : ClientMove) (ds : List Deed) → Every IsPost ds
    → (fold (client_does decl) m ds).client.front.transaction ≡ m.client.front.transaction
transaction_posts decl m [] all = refl
transaction_posts decl m (Takes g ∷ ds) all = absurd all.0
transaction_posts decl m (Writes written ∷ ds) all = transaction_posts decl m ds all.1
transaction_posts decl m (Sends number to message ∷ ds) all =
    transaction_posts decl (record m { client = sent_one m.client number to message }) ds all.1
    ∙ transaction_one m.client number to message
transaction_posts decl m (Tells reply ∷ ds) all = transaction_posts decl m ds all.1
transaction_posts decl m (Falls cause pending ∷ ds) all = transaction_posts decl m ds all.1
transaction_posts decl m (Rises records ∷ ds) all = transaction_posts decl m ds all.1

asked_named : (s : ℕ) (x : TxId) (o : Option Transaction) → HasAsked s x o → front_name o ≡ Some x
asked_named s x o h = ap front_name h.is ∙ ap (λ (y : TxId). Some y) h.named

module _ (decl : Declaration) (accepted : IsAccepted decl) (a : ℕ) (no_site : is_site decl a ≡ false)
    (named : is_client decl a ≡ true) (s : ℕ) (x : TxId) where
  abbrev account_of : List Deed → Account
  account_of ds = fold (account_at decl) (new_account (a - decl.sites)) ds

  abbrev move_of : List Deed → ClientMove
  move_of ds = client_after decl (a - decl.sites) ds

  record IsClosed (ds : List Deed) : Type 0 where
    asked : open_done s x ds ≡ true → HasAsked s x (client_after decl (a - decl.sites) ds).client.front.transaction
    name : open_done s x ds ≡ true → name_of (fold (account_at decl) (new_account (a - decl.sites)) ds) ≡ Some x

  record IsOpened (ds : List Deed) : Type 0 where
    next : open_posted s x (open_done s x ds) (client_after decl (a - decl.sites) ds).turn.sends ≡ true
        → HasAsked s x (client_after decl (a - decl.sites) ds).client.front.transaction
    name : open_done s x ds ≡ true → name_of (fold (account_at decl) (new_account (a - decl.sites)) ds) ≡ Some x

  abbrev At : List Deed → Bool → Type 0
  At ds true = IsOpened ds
  At ds false = IsClosed ds

  asked_acts : (ds : List Deed) (b : Bool) (n : ℕ) → Acts decl a ds b n → At ds b
  asked_acts ds b n starts = record {
    asked = λ is. absurd (let never : ⊥ = cc in never);
    name = λ is. absurd (let never : ⊥ = cc in never);
  }
  asked_acts ds b n (takes before g m done may) =
      let old : IsClosed before = asked_acts before false m done in
      let kept : IsResting decl accepted a no_site named x before =
      deals_acts decl accepted a no_site named x before false m done in
      let same : open_done s x (before ++ Takes g ∷ []) ≡ open_done s x before =
      fold-append (open_did s x) false before (Takes g ∷ []) in
      let move : client_after decl (a - decl.sites) (before ++ Takes g ∷ []) ≡ client_takes decl
      (client_after decl (a - decl.sites) before).client g =
      fold-append (client_does decl) (moved (new_client (a - decl.sites)) quiet) before (Takes g ∷ []) in
      let name : name_of (account_of (before ++ Takes g ∷ [])) ≡ name_of (account_of before) =
      ap name_of (fold-append (account_at decl) (new_account (a - decl.sites)) before (Takes g ∷ []))
      ∙ taken_named (account_of before) g in
      record {
        next = subst (λ (v : Bool). open_posted s x v
            (client_after decl (a - decl.sites) (before ++ Takes g ∷ [])).turn.sends ≡ true
            → HasAsked s x (client_after decl (a - decl.sites) (before ++ Takes g ∷ [])).client.front.transaction)
            (sym same)
            (subst (λ (v : ClientMove). open_posted s x (open_done s x before) v.turn.sends ≡ true
            → HasAsked s x v.client.front.transaction) (sym move)
            (input_keeps s x decl (client_after decl (a - decl.sites) before).client kept.keeps.hand g
            (open_done s x before) old.asked));
        name = λ is. name ∙ old.name (sym same ∙ is);
      }
  asked_acts ds b n (posts before turn m first done above lawful) =
      let old : IsOpened before = asked_acts before true m done in
      let its : turn ≡ (client_after decl (a - decl.sites) before).turn =
      lawful_turn (λ (t : Turn). t ≡ (client_after decl (a - decl.sites) before).turn) decl a before turn lawful
      (λ is. absurd (let no : ⊥ = cc in no)) (λ is client. refl) in
      let more : open_done s x (before ++ turn_deeds first turn) ≡ open_posted s x (open_done s x before)
      (client_after decl (a - decl.sites) before).turn.sends =
      fold-append (open_did s x) false before (turn_deeds first turn) ∙ turn_done s x (open_done s x before) first turn
      ∙ ap (λ (t : Turn). open_posted s x (open_done s x before) t.sends) its in
      let kept : (client_after decl (a - decl.sites) (before ++ turn_deeds first turn)).client.front.transaction ≡
      (client_after decl (a - decl.sites) before).client.front.transaction =
      ap (λ (v : ClientMove). v.client.front.transaction)
      (fold-append (client_does decl) (moved (new_client (a - decl.sites)) quiet) before (turn_deeds first turn))
      ∙ transaction_posts decl (client_after decl (a - decl.sites) before) (turn_deeds first turn)
      (turn-posts first turn) in
      let asks : open_done s x (before ++ turn_deeds first turn) ≡ true
      → HasAsked s x (client_after decl (a - decl.sites) (before ++ turn_deeds first turn)).client.front.transaction
      =
      λ is. subst (HasAsked s x) (sym kept) (old.next (sym more ∙ is)) in
      let tied : Ties decl (account_of (before ++ turn_deeds first turn))
      (client_after decl (a - decl.sites) (before ++ turn_deeds first turn)).client =
      accounts_are_their_clients decl a named (before ++ turn_deeds first turn) _
      (posts before turn m first done above lawful) in
      record {
        asked = asks;
        name = λ is. tied_named decl (account_of (before ++ turn_deeds first turn))
            (client_after decl (a - decl.sites) (before ++ turn_deeds first turn)).client tied
            ∙ asked_named s x (client_after decl (a - decl.sites)
            (before ++ turn_deeds first turn)).client.front.transaction (asks is);
      }

  -- what is open is the begun transaction
  pub open_named : (ds : List Deed) (b : Bool) (n : ℕ) → Acts decl a ds b n → open_done s x ds ≡ true
      → name_of (fold (account_at decl) (new_account (a - decl.sites)) ds) ≡ Some x
  open_named ds b n acts = by b (asked_acts ds b n acts)
    where
      by : (b : Bool) → At ds b → open_done s x ds ≡ true
          → name_of (fold (account_at decl) (new_account (a - decl.sites)) ds) ≡ Some x
      by true at = at.name
      by false at = at.name
