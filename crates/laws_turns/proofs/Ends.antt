-- Where nothing is ready for anybody, no input is open and each control line has acted, no client waits for a request.
use Rattle.std.proofs.Common.{◌≡◌, ℕ, ◌+◌, ◌-◌, ◌<◌, ◌≤◌, ◌⊎◌, true, false, inl, inr, List, [], ◌∷◌, Option, None, refl}
use Rattle.std.proofs.Common.{sym, ap, ◌∙◌, subst, arith}
use Rattle.std.specs.Prelude.{replicate}
use Rattle.qc_decl.proofs.Clients.{client_within}
use Rattle.qc_list.specs.Vocabulary.{In}
use Rattle.qc_client.specs.Vocabulary.{client_after}
use Rattle.qc_decl.specs.declared.declaration.Declaration.{Declaration}
use Rattle.qc_decl.specs.Vocabulary.{IsAccepted, actors, is_client}
use Rattle.qc_msg.specs.declared.call.Call.{Call}
use Rattle.qc_msg.specs.declared.message.Envelope.{Envelope}
use Rattle.qc_msg.specs.declared.step.Control.{Control}
use Rattle.qc_msg.specs.declared.step.Input.{Input}
use Rattle.qc_msg.specs.Vocabulary.{Entry, deeds}
use Rattle.qc_script.specs.declared.script.Script.{Script}
use Rattle.qc_script.specs.Vocabulary.{after_controls, command_in, controls_left, first_copy, first_lost, inbox}
use Rattle.qc_script.proofs.InboxesSend.{InCommon}
use Rattle.qc_script.proofs.Inboxes.{inboxes_have_in_common}
use Rattle.laws_turns.specs.Vocabulary.{AsksDeclared, IsAtReceiver, IsAwaited, IsClosed, IsQuiet, IsTaken, open_calls}
use Rattle.laws_turns.proofs.Covered.{open_requests_are_awaited}
use Rattle.laws_turns.proofs.Reached.{receiver_is_site, unanswered_requests_are_at_their_sites}
use Rattle.qc_link.specs.Vocabulary.{most_actors}
use Rattle.qc_list.proofs.Places.{replicate_at}
use Rattle.qc_list.proofs.Members.{In-none}

pub no_copies : (es : List Envelope) (other : Option Input) → first_copy es other ≡ None → es ≡ []
no_copies [] other is = refl
no_copies (e ∷ es) other is = absurd (let never : ⊥ = cc in never)

pub no_losts : (es : List Envelope) (ns : List ℕ) (other : Option Input) → first_copy es (first_lost ns other) ≡ None
    → ns ≡ []
no_losts [] [] other is = refl
no_losts [] (n ∷ ns) other is = absurd (let never : ⊥ = cc in never)
no_losts (e ∷ es) ns other is = absurd (let never : ⊥ = cc in never)

module _ (decl : Declaration) (script : Script) (accepted : IsAccepted decl) (asks : AsksDeclared decl script)
    (h : List Entry) (closed : IsClosed decl script h) (quiet : IsQuiet decl script h)
    (done : controls_left script h ≡ []) where
  low : (a : ℕ) → a < actors decl → a < most_actors
  low a within =
      let sites : decl.sites ≤ 16 = accepted.sites in
      let clients : decl.clients ≤ 16 = accepted.clients in
      let few : a < decl.sites + decl.clients + 1 = within in
      omega arith

  no_controls : (a : ℕ) → a < actors decl → (inbox script a h).controls ≡ []
  no_controls a within = let common : InCommon a 0 (inbox script a h) (inbox script 0 h) =
      inboxes_have_in_common script a 0 h (low a within) (omega arith) in common.controls ∙ done

  pub nothing_ready : (a : ℕ) → a < actors decl
      → first_copy (inbox script a h).copies (first_lost (inbox script a h).lost (command_in decl a (inbox script a h)))
      ≡ None
  nothing_ready a within =
      ap (λ (lines : List Control). after_controls lines
      (first_copy (inbox script a h).copies (first_lost (inbox script a h).lost
      (command_in decl a (inbox script a h))))) (sym (no_controls a within)) ∙ quiet a within

  pub copies_none : (a : ℕ) → a < actors decl → (inbox script a h).copies ≡ []
  copies_none a within = no_copies (inbox script a h).copies
      (first_lost (inbox script a h).lost (command_in decl a (inbox script a h))) (nothing_ready a within)

  pub losts_none : (a : ℕ) → a < actors decl → (inbox script a h).lost ≡ []
  losts_none a within = no_losts (inbox script a h).copies (inbox script a h).lost
      (command_in decl a (inbox script a h)) (nothing_ready a within)

  nowhere : (a n : ℕ) → IsAtReceiver script h (replicate (actors decl) false) a n → ⊥
  nowhere a n r = at r.place
    where
      site : r.envelope.to < decl.sites
      site = receiver_is_site decl script accepted asks 0 (omega arith) h
          (replicate (actors decl) false) closed r.envelope r.sent r.request

      within : r.envelope.to < actors decl
      within = let low : r.envelope.to < decl.sites = site in
          let all : actors decl ≡ decl.sites + decl.clients + 1 = refl in omega arith

      at : In r.envelope (inbox script r.envelope.to h).copies ⊎ IsTaken h (replicate (actors decl) false) r.envelope
          → ⊥
      at (inl there) = subst (In r.envelope) (copies_none r.envelope.to within) there
      at (inr t) = let same : true ≡ false = replicate_at (actors decl) r.envelope.to false true t.is_open in
          let never : ⊥ = cc in never

  not_awaited : (a n : ℕ) → a < actors decl → IsAwaited n (inbox script a h) → ⊥
  not_awaited a n within (inl lost) = subst (In n) (losts_none a within) lost
  not_awaited a n within (inr (inl open_still)) =
      nowhere a n (unanswered_requests_are_at_their_sites decl script accepted asks a (low a within) h
      (replicate (actors decl) false) closed n open_still)
  not_awaited a n within (inr (inr has)) = subst (In has.envelope) (copies_none a within) has.member

  pub no_open_requests : (a : ℕ) → is_client decl a ≡ true → (q : Call)
      → In q (open_calls (client_after decl (a - decl.sites) (deeds a [] h)).client) → ⊥
  no_open_requests a client q member =
      not_awaited a q.number (client_within decl a client)
      (open_requests_are_awaited decl script a h (replicate (actors decl) false) closed q member)

pub no_request_is_open_at_the_end : (decl : Declaration) (script : Script) → IsAccepted decl → AsksDeclared decl script
    → (h : List Entry)
    → IsClosed decl script h → IsQuiet decl script h → controls_left script h ≡ []
    → (a : ℕ) → is_client decl a ≡ true → open_calls (client_after decl (a - decl.sites) (deeds a [] h)).client ≡ []
no_request_is_open_at_the_end decl script accepted asks h closed quiet done a client =
    In-none (open_calls (client_after decl (a - decl.sites) (deeds a [] h)).client)
    (no_open_requests decl script accepted asks h closed quiet done a client)
