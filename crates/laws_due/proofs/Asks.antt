-- Requests that are sent one after another are those that the command asks for, and stand in the account as they went.
use Rattle.std.proofs.Common.{◌≡◌, ℕ, ◌+◌, ◌==◌, ◌&&◌, Bool, true, cond, List, [], ◌∷◌, ◌++◌, map, Some, refl, sym, ap}
use Rattle.std.proofs.Common.{◌∙◌, subst, eq-eqb, append_assoc}
use Rattle.std.specs.Prelude.{fold}
use Rattle.std.proofs.lemmas.List.{append-nil}
use Rattle.qc_stamp.proofs.Orders.{same_tx_itself}
use Rattle.qc_decl.specs.declared.declaration.Declaration.{Declaration}
use Rattle.qc_msg.specs.declared.message.Message.TheVariants as messages
use Rattle.qc_msg.specs.declared.message.Want.{Want}
use Rattle.qc_msg.specs.declared.turn.Posting.{Posting}
use Rattle.qc_msg.specs.Vocabulary.{Deed, Sends, life_of, sends_of}
use Rattle.qc_promise.specs.Vocabulary.{Account, ClientRequest, Current, account_at, command_asks, is_asked_for}
use Rattle.laws_due.specs.Vocabulary.{AreByRows}
use Rattle.laws_due.proofs.Requests.{request_at, requests_from}

-- a request of the transaction, in its epoch, to a site in the life of its first grant
abbrev pub asking : Current → Want → ℕ → Posting
asking t want site = record { to = site; message = messages.Request t.tx t.epoch (life_of t.lives site) want }

-- deeds after deeds
pub due_more : (decl : Declaration) (d : Account) (xs ys : List Deed) → AreByRows decl d xs
    → AreByRows decl (fold (account_at decl) d xs) ys → AreByRows decl d (xs ++ ys)
due_more decl d [] ys first second = second
due_more decl d (x ∷ xs) ys first second = (first.0, due_more decl (account_at decl d x) xs ys first.1 second)

-- the sites of `P qs ss` are those that are to be asked next
module _ (decl : Declaration) (d : Account) (t : Current) (want : Want) (P : List ClientRequest → List ℕ → Type 0)
    (step : (number site : ℕ) (ss : List ℕ) (qs : List ClientRequest) → P qs (site ∷ ss)
    → (command_asks decl (record d { requests = qs; current = Some t }) t site want d.command ≡ true)
    × P (qs ++ request_at number t want site ∷ []) ss) where
  abbrev run : List ClientRequest → Account
  run qs = record d { requests = qs; current = Some t }

  asked_for : (number site : ℕ) (ss : List ℕ) (qs : List ClientRequest) → P qs (site ∷ ss)
      → is_asked_for decl (run qs) site t.tx t.epoch (life_of t.lives site) want ≡ true
  asked_for number site ss qs p =
      ap (λ (b : Bool). (b && ((t.epoch == t.epoch) && (life_of t.lives site == life_of t.lives site)))
      && command_asks decl (run qs) t site want d.command) (same_tx_itself t.tx)
      ∙ ap (λ (b : Bool). (b && (life_of t.lives site == life_of t.lives site))
      && command_asks decl (run qs) t site want d.command) (eq-eqb t.epoch t.epoch refl)
      ∙ ap (λ (b : Bool). b && command_asks decl (run qs) t site want d.command)
      (eq-eqb (life_of t.lives site) (life_of t.lives site) refl)
      ∙ (step number site ss qs p).0

  one_asked : (number site : ℕ) (ss : List ℕ) (qs : List ClientRequest) → P qs (site ∷ ss)
      → account_at decl (run qs) (Sends number site (asking t want site).message) ≡ run
      (qs ++ request_at number t want site ∷ [])
  one_asked number site ss qs p = ap (λ (b : Bool). cond b (run (qs ++ request_at number t want site ∷ [])) (run qs))
      (asked_for number site ss qs p)

  pub asks_due : (ss : List ℕ) (number : ℕ) (qs : List ClientRequest) → P qs ss
      → AreByRows decl (run qs) (sends_of number (map (asking t want) ss))
  asks_due [] number qs p = tt
  asks_due (s ∷ ss) number qs p = (
    asked_for number s ss qs p,
    subst (λ (e : Account). AreByRows decl e (sends_of (number + 1) (map (asking t want) ss)))
        (sym (one_asked number s ss qs p))
        (asks_due ss (number + 1) (qs ++ request_at number t want s ∷ []) (step number s ss qs p).1),
  )

  pub asks_fold : (ss : List ℕ) (number : ℕ) (qs : List ClientRequest) → P qs ss
      → fold (account_at decl) (run qs) (sends_of number (map (asking t want) ss)) ≡ run
      (qs ++ requests_from number t want ss)
  asks_fold [] number qs p = ap run (sym (append-nil qs))
  asks_fold (s ∷ ss) number qs p =
      ap (λ (e : Account). fold (account_at decl) e (sends_of (number + 1) (map (asking t want) ss)))
      (one_asked number s ss qs p)
      ∙ asks_fold ss (number + 1) (qs ++ request_at number t want s ∷ []) (step number s ss qs p).1
      ∙ ap run (append_assoc qs (request_at number t want s ∷ []) (requests_from (number + 1) t want ss))
