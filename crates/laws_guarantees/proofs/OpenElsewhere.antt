-- What is open at a site before a request of a client: its own transaction, or one that another client has begun and
-- that hasn't ended. And who has begun what, as somebody acts.
use Rattle.std.proofs.Common.{◌≡◌, ℕ, ◌-◌, ◌==◌, Bool, true, false, List, [], ◌∷◌, ◌++◌, fold, Some, refl, sym, ap, ◌∙◌}
use Rattle.std.proofs.Common.{subst, eqb-true}
use Rattle.std.proofs.lemmas.List.Sums.{fold-append}
use Rattle.qc_list.specs.Vocabulary.{In}
use Rattle.qc_stamp.specs.declared.stamp.TxId.{TxId}
use Rattle.qc_decl.specs.Vocabulary.{client_actor, is_client}
use Rattle.qc_decl.specs.declared.declaration.Declaration.{Declaration}
use Rattle.qc_msg.specs.declared.step.Input.{Input}
use Rattle.qc_msg.specs.declared.turn.Turn.{Turn}
use Rattle.qc_msg.specs.Vocabulary.{Deed, Entry, Takes, WasSentTo, by, deeds, mail, marked, posted, step_of}
use Rattle.qc_msg.proofs.DeedsGrow.{deeds-other}
use Rattle.qc_msg.proofs.Growth.{deeds-taken}
use Rattle.qc_promise.specs.Vocabulary.{ClientRequest, account, account_at, new_account}
use Rattle.laws_guarantees.specs.Vocabulary.{begun_by, is_open, name_of, sent_before}
use Rattle.laws_guarantees.proofs.Names.{taken_named}

pub record IsElsewhere (decl : Declaration) (a : ℕ) (h : List Entry) (x : TxId) : Type 0 where
  pub elsewhere : client_actor decl x.client ≡ a → ⊥
  pub still : begun_by decl (client_actor decl x.client) h ≡ Some x

abbrev pub IsClear : Declaration → ℕ → List Entry → ClientRequest → Type 0
IsClear decl a h q =
    (x : TxId) → is_open x (sent_before q.site q.number (mail h)) ≡ true → (begun_by decl a h ≡ Some x → ⊥)
    → IsElsewhere decl a h x

abbrev pub AllClear : Declaration → List Entry → Type 0
AllClear decl h =
    (a : ℕ) → is_client decl a ≡ true → (q : ClientRequest) → In q (account decl a h).requests → IsClear decl a h q

-- who has begun what, as somebody acts

module _ (decl : Declaration) where
  pub begun_same : (c : ℕ) (h k : List Entry) → deeds c [] k ≡ deeds c [] h → begun_by decl c k ≡ begun_by decl c h
  begun_same c h k same =
      ap (λ (ds : List Deed). name_of (fold (account_at decl) (new_account (c - decl.sites)) ds)) same

  pub begun_taken : (b : ℕ) (g : Input) (h : List Entry) → WasSentTo b (mail h) g → (c : ℕ)
      → begun_by decl c (h ++ marked b (step_of g) ∷ []) ≡ begun_by decl c h
  begun_taken b g h sent c = by (b == c) refl
    where
      here : begun_by decl b (h ++ marked b (step_of g) ∷ []) ≡ begun_by decl b h
      here =
          ap (λ (ds : List Deed). name_of (fold (account_at decl) (new_account (b - decl.sites)) ds))
          (deeds-taken b h g sent)
          ∙ ap name_of (fold-append (account_at decl) (new_account (b - decl.sites)) (deeds b [] h) (Takes g ∷ []))
          ∙ taken_named (account decl b h) g

      by : (t : Bool) → (b == c) ≡ t → begun_by decl c (h ++ marked b (step_of g) ∷ []) ≡ begun_by decl c h
      by true same =
          subst (λ (k : ℕ). begun_by decl k (h ++ marked b (step_of g) ∷ []) ≡ begun_by decl k h) (eqb-true b c same)
          here
      by false other = begun_same c h (h ++ marked b (step_of g) ∷ []) (deeds-other b c [] h (step_of g ∷ []) other)

  pub begun_elsewhere : (b n : ℕ) (turn : Turn) (h : List Entry) (c : ℕ) → (c ≡ b → ⊥)
      → begun_by decl c (h ++ by b (posted n turn)) ≡ begun_by decl c h
  begun_elsewhere b n turn h c differs = at (b == c) refl
    where
      at : (t : Bool) → (b == c) ≡ t → begun_by decl c (h ++ by b (posted n turn)) ≡ begun_by decl c h
      at true same = absurd (differs (sym (eqb-true b c same)))
      at false other = begun_same c h (h ++ by b (posted n turn)) (deeds-other b c [] h (posted n turn) other)

  -- where mail and begun transactions are the same
  pub clear_same : (a : ℕ) (h k : List Entry) (q p : ClientRequest) → mail k ≡ mail h
      → ((c : ℕ) → begun_by decl c k ≡ begun_by decl c h) → p.number ≡ q.number → p.site ≡ q.site → IsClear decl a h q
      → IsClear decl a k p
  clear_same a h k q p mailed begun number site clear x is other =
      let was : is_open x (sent_before q.site q.number (mail h)) ≡ true =
      (λ i. is_open x (sent_before (sym site i) (sym number i) (sym mailed i))) ∙ is in
      let e : IsElsewhere decl a h x = clear x was (λ named. other (begun a ∙ named)) in
      record { elsewhere = e.elsewhere; still = begun (client_actor decl x.client) ∙ e.still }
