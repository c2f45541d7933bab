-- Lives only grow; a request that isn't refused names the site's life, or none.
use Rattle.std.specs.Prelude.{[], option_to_list}
use Rattle.std.proofs.Common.{◌≡◌, ◌⊎◌, ℕ, ◌==◌, nat_lt, ◌≤◌, arith, eqb-true, inl, inr, Bool, true, false, cond, fold}
use Rattle.std.proofs.Common.{List, ◌∷◌, ◌++◌, Option, Some, None, refl, sym, ap, ◌∙◌, subst}
use Rattle.std.proofs.lemmas.List.Sums.{fold-append}
use Rattle.qc_stamp.specs.declared.stamp.TxId.{TxId}
use Rattle.qc_list.specs.Vocabulary.{In}
use Rattle.qc_decl.specs.Vocabulary.{administrator}
use Rattle.qc_decl.specs.declared.declaration.Declaration.{Declaration}
use Rattle.qc_msg.specs.declared.message.Answer.TheVariants as answers
use Rattle.qc_msg.specs.declared.message.Message.TheVariants as messages
use Rattle.qc_msg.specs.declared.message.Want.TheVariants.{Prepare}
use Rattle.qc_msg.specs.declared.record.Record.{Record}
use Rattle.qc_msg.specs.declared.record.Record.TheVariants as records
use Rattle.qc_msg.specs.declared.turn.Posting.{Posting}
use Rattle.theory_machine.specs.Vocabulary.{put}
use Rattle.theory_machine.proofs.Names.{put_here}
use Rattle.qc_client.specs.Vocabulary.{client_takes}
use Rattle.qc_site.specs.Vocabulary.{SiteMove, SiteState, closed_fault, fault_of, passed, site_on, site_takes}
use Rattle.qc_epoch.specs.Vocabulary.{admin_takes}
use Rattle.qc_site.proofs.RequestCases.{request_cases}
use Rattle.qc_recover.specs.Vocabulary.{Kept, keeps, kept_by, nothing_kept}
use Rattle.laws_refinement.specs.Vocabulary.{Net, Reaches, Step}
use Rattle.laws_refinement.specs.Net as nets
use Rattle.laws_refinement.proofs.Machine.{put_other}
use Rattle.laws_refinement.proofs.PendingCases.{kept_cases}
use Rattle.laws_refinement.proofs.SiteVotes.{no_fault, one_answer}
use Rattle.laws_refinement.specs.Steps as steps
use Rattle.laws_refinement.proofs.Lives.{same_or}

-- lives only grow

pub life_one : (k : Kept) (r : Record) → k.life ≤ (keeps k r).life
life_one k =
    kept_cases k (λ r next. k.life ≤ next.life) (omega arith) (λ p. omega arith) (λ tx clock. omega arith)
    (λ epoch. omega arith) (λ start. omega arith) (λ r. omega arith)

pub life_more : (k : Kept) (rs : List Record) → k.life ≤ (fold keeps k rs).life
life_more k [] = omega arith
life_more k (r ∷ rs) =
    let one : k.life ≤ (keeps k r).life = life_one k r in
    let more : (keeps k r).life ≤ (fold keeps (keeps k r) rs).life = life_more (keeps k r) rs in omega arith

life_append : (rs more : List Record) → (kept_by rs).life ≤ (kept_by (rs ++ more)).life
life_append rs more =
    subst (λ (k : Kept). (kept_by rs).life ≤ k.life) (sym (fold-append keeps nothing_kept rs more))
    (life_more (kept_by rs) more)

life_twice : (rs more last : List Record) → (kept_by rs).life ≤ (kept_by ((rs ++ more) ++ last)).life
life_twice rs more last =
    let one : (kept_by rs).life ≤ (kept_by (rs ++ more)).life = life_append rs more in
    let two : (kept_by (rs ++ more)).life ≤ (kept_by ((rs ++ more) ++ last)).life = life_append (rs ++ more) last in
    omega arith

life_put : (f : ℕ → List Record) (x a : ℕ) (rs : List Record) → (kept_by (f x)).life ≤ (kept_by rs).life
    → (kept_by (f a)).life ≤ (kept_by (put f x rs a)).life
life_put f x a rs more = elim (same_or a x) [
  | inl e ↦
      subst (λ (k : ℕ). (kept_by (f k)).life ≤ (kept_by (put f x rs k)).life) (sym e)
      (subst (λ (v : List Record). (kept_by (f x)).life ≤ (kept_by v).life) (sym (put_here f x rs)) more)
  | inr other ↦
      subst (λ (v : List Record). (kept_by (f a)).life ≤ (kept_by v).life) (sym (put_other f x rs a other))
      (omega arith)
]

-- a request that isn't refused names the site's life, or none
in_life : (s : SiteState) (epoch life : ℕ) → fault_of s epoch life ≡ None → (life ≡ 0) ⊎ (life ≡ s.life)
in_life s epoch life = by (nat_lt s.epoch epoch) (nat_lt epoch s.epoch)
  where
    lives : (c d : Bool) → (life == 0) ≡ c → (life == s.life) ≡ d
        → cond c None (cond d None (Some (answers.Restarted s.life))) ≡ None → (life ≡ 0) ⊎ (life ≡ s.life)
    lives true d e f is = inl (eqb-true life 0 e)
    lives false true e f is = inr (eqb-true life s.life f)
    lives false false e f is = absurd (let never : ⊥ = cc in never)

    closed : (k : Option ℕ) → closed_fault s life k ≡ None → (life ≡ 0) ⊎ (life ≡ s.life)
    closed None is = lives (life == 0) (life == s.life) refl refl is
    closed (Some k) is = absurd (let never : ⊥ = cc in never)

    by : (c d : Bool)
        → cond c (Some (answers.Behind s.epoch))
        (cond d (Some (answers.Closed s.epoch)) (closed_fault s life s.closed_for)) ≡ None
        → (life ≡ 0) ⊎ (life ≡ s.life)
    by true d is = absurd (let never : ⊥ = cc in never)
    by false true is = absurd (let never : ⊥ = cc in never)
    by false false is = closed s.closed_for is

module _ (decl : Declaration) where
  abbrev pub InLife : SiteState → ℕ → SiteMove → Type 0
  InLife s life move =
      (p : Posting) → In p move.turn.sends → (to clock : ℕ) → p.message ≡ messages.Answer to (answers.Yes clock)
      → (life ≡ 0) ⊎ (life ≡ s.life)

  pub votes_in_life : (s : SiteState) (from number epoch life : ℕ) (tx : TxId)
      → InLife s life (site_on decl s from number (messages.Request tx epoch life Prepare))
  votes_in_life s from number epoch life tx =
      request_cases (InLife s life) decl (passed s (messages.Request tx epoch life Prepare)) from number tx epoch life
      Prepare
      (λ p among to clock is. absurd among)
      (λ fault is p among to clock told. absurd (no_fault (passed s (messages.Request tx epoch life Prepare)) epoch life
      clock (is ∙ ap Some (one_answer from number fault p among to clock told).1)))
      (λ is p among to clock told. in_life (passed s (messages.Request tx epoch life Prepare)) epoch life is)

  -- steps

  pub reach : (net next : Net) → Reaches decl net → Step decl net next → Reaches decl next
  reach net next r (steps.serves a given now site up came) = nets.serves a given net r site up came
  reach net next r (steps.takes a given now client up came ready) = nets.takes a given net r client up came ready
  reach net next r (steps.site_falls a now site up) = nets.site_falls a net r site up
  reach net next r (steps.client_falls a now client up) = nets.client_falls a net r client up
  reach net next r (steps.site_fails a given written sends now site up came wrote failed) =
      nets.site_fails a given written sends net r site up came wrote failed
  reach net next r (steps.client_fails a given written sends now client up came ready wrote failed) =
      nets.client_fails a given written sends net r client up came ready wrote failed
  reach net next r (steps.administers given now up came named) = nets.administers given net r up came named
  reach net next r (steps.admin_falls now up) = nets.admin_falls net r up
  reach net next r (steps.admin_fails given written sends now up came named wrote failed) =
      nets.admin_fails given written sends net r up came named wrote failed
  reach net next r (steps.admin_rises_up back now down given) = nets.admin_rises_up back net r down given
  reach net next r (steps.admin_rises_in_vain back now down given) = nets.admin_rises_in_vain back net r down given
  reach net next r (steps.site_rises_up a back now site down given) = nets.site_rises_up a back net r site down given
  reach net next r (steps.client_rises_up a back now client down given) =
      nets.client_rises_up a back net r client down given
  reach net next r (steps.site_rises_in_vain a back now site down given) =
      nets.site_rises_in_vain a back net r site down given
  reach net next r (steps.client_rises_in_vain a back now client down given) =
      nets.client_rises_in_vain a back net r client down given

  pub step_life : (net next : Net) (b : ℕ) → Step decl net next
      → (kept_by (net.records b)).life ≤ (kept_by (next.records b)).life
  step_life net next b (steps.serves a given now site up came) =
      life_put net.records a b (net.records a ++ option_to_list (site_takes decl (net.sites a) given).turn.write)
      (life_append (net.records a) (option_to_list (site_takes decl (net.sites a) given).turn.write))
  step_life net next b (steps.takes a given now client up came ready) =
      life_put net.records a b (net.records a ++ option_to_list (client_takes decl (net.clients a) given).turn.write)
      (life_append (net.records a) (option_to_list (client_takes decl (net.clients a) given).turn.write))
  step_life net next b (steps.site_falls a now site up) = omega arith
  step_life net next b (steps.client_falls a now client up) = omega arith
  step_life net next b (steps.site_fails a given written sends now site up came wrote failed) = omega arith
  step_life net next b (steps.client_fails a given written sends now client up came ready wrote failed) = omega arith
  step_life net next b (steps.administers given now up came named) =
      life_put net.records (administrator decl) b
      (net.records (administrator decl) ++ option_to_list (admin_takes decl net.admin given).turn.write)
      (life_append (net.records (administrator decl)) (option_to_list (admin_takes decl net.admin given).turn.write))
  step_life net next b (steps.admin_falls now up) = omega arith
  step_life net next b (steps.admin_fails given written sends now up came named wrote failed) = omega arith
  step_life net next b (steps.admin_rises_up back now down given) =
      life_put net.records (administrator decl) b
      ((net.records (administrator decl) ++ option_to_list back) ++ records.Life ∷ [])
      (life_twice (net.records (administrator decl)) (option_to_list back) (records.Life ∷ []))
  step_life net next b (steps.admin_rises_in_vain back now down given) =
      life_put net.records (administrator decl) b (net.records (administrator decl) ++ option_to_list back)
      (life_append (net.records (administrator decl)) (option_to_list back))
  step_life net next b (steps.site_rises_up a back now site down given) =
      life_put net.records a b ((net.records a ++ option_to_list back) ++ records.Life ∷ [])
      (life_twice (net.records a) (option_to_list back) (records.Life ∷ []))
  step_life net next b (steps.client_rises_up a back now client down given) =
      life_put net.records a b ((net.records a ++ option_to_list back) ++ records.Life ∷ [])
      (life_twice (net.records a) (option_to_list back) (records.Life ∷ []))
  step_life net next b (steps.site_rises_in_vain a back now site down given) =
      life_put net.records a b (net.records a ++ option_to_list back)
      (life_append (net.records a) (option_to_list back))
  step_life net next b (steps.client_rises_in_vain a back now client down given) =
      life_put net.records a b (net.records a ++ option_to_list back)
      (life_append (net.records a) (option_to_list back))
