-- Where the machine does nothing, and where its site grants, a site agrees with it.
use Rattle.std.proofs.Common.{[], ◌≡◌, ◌≢◌, ◌≤◌, ◌<◌, ℕ, Bool, true, false, ◌⊎◌, inl, inr, List, ◌∷◌, ◌++◌, Option}
use Rattle.std.proofs.Common.{Some}
use Rattle.std.proofs.Common.{None, unwrap_or, refl, sym, ◌∙◌, subst}
use Rattle.qc_stamp.specs.declared.stamp.TxId.{TxId}
use Rattle.qc_stamp.specs.Vocabulary.{same_tx}
use Rattle.qc_stamp.proofs.Orders.{other_tx_sym, same_tx_is}
use Rattle.qc_list.specs.Vocabulary.{In}
use Rattle.qc_entry.specs.declared.line.Line.{Line}
use Rattle.qc_entry.specs.declared.line.OwnLine.{OwnLine}
use Rattle.qc_entry.specs.Vocabulary.{IsAscending}
use Rattle.qc_decl.specs.declared.declaration.Declaration.{Declaration}
use Rattle.qc_decl.specs.Vocabulary.{is_site}
use Rattle.qc_lock.specs.declared.held.Held.{Held}
use Rattle.qc_lock.specs.Vocabulary.{entry_of, held_of, is_held, without_held}
use Rattle.qc_lock.proofs.Entries.{entry-without, held-without_other}
use Rattle.qc_msg.specs.declared.payload.Grant.{Grant as SiteGrant}
use Rattle.qc_msg.specs.declared.message.Answer.{Answer}
use Rattle.qc_msg.specs.declared.message.Answer.TheVariants as answers
use Rattle.qc_msg.specs.declared.message.Message.TheVariants as messages
use Rattle.qc_msg.specs.declared.message.Want.{Want}
use Rattle.qc_msg.specs.declared.message.Want.TheVariants.{Read}
use Rattle.qc_msg.specs.declared.turn.Posting.{Posting}
use Rattle.theory_machine.specs.Vocabulary.{Act, Deed, Grant, Granted, Grants, IsRun, Item, NotBegun, Own, Promise}
use Rattle.theory_machine.specs.Vocabulary.{Site, State, after_act, after_prepare, items_of, site_after, state}
use Rattle.theory_machine.specs.Vocabulary.{without_tx}
use Rattle.theory_machine.proofs.Names.{put_here}
use Rattle.theory_machine.proofs.SiteLists.{items_of-dropped, items_of-kept}
use Rattle.qc_site.specs.Vocabulary.{SiteMove, SiteState, answers as answers_with, moved, view_in}
use Rattle.laws_refinement.specs.Vocabulary.{Backed, Continues, IsGrantable, IsHeld, IsKeptBy, IsMessage, KeptMirrors}
use Rattle.laws_refinement.specs.Vocabulary.{Mirrors, Net, SiteMirrors, after_site, items_wanted}
use Rattle.std.specs.Prelude.{option_to_list}
use Rattle.std.proofs.lemmas.List.{append-nil}
use Rattle.qc_msg.specs.declared.record.Record.{Record}
use Rattle.qc_msg.specs.Vocabulary.{first_read}
use Rattle.qc_recover.specs.Vocabulary.{kept_by}
use Rattle.laws_refinement.proofs.KeptDeeds.{kept_same, leaves_epoch}
use Rattle.laws_refinement.proofs.MessagesStay.{keeps_same, same_state}
use Rattle.laws_refinement.proofs.Machine.{put_other}
use Rattle.laws_refinement.proofs.Nets.{site_goes}
use Rattle.laws_refinement.proofs.SiteSteps.{clock_mirrors, grant_of, one_answer}

-- what stays as the machine's site prepares
pub same_held : (s : Site) (tx : TxId) (p : Option Promise) → (after_prepare tx p s).held ≡ s.held
same_held s tx None = refl
same_held s tx (Some p) = refl

pub same_log : (s : Site) (tx : TxId) (p : Option Promise) → (after_prepare tx p s).volatile ≡ s.volatile
same_log s tx None = refl
same_log s tx (Some p) = refl

-- what others hold stays as a transaction is dropped

pub without_has : (s : SiteState) (tx : TxId) (ds : List Deed) (t : TxId) (x : Item)
    → ((u : TxId) (y : Item) → In y (items_of u (site_after ds).held) → IsHeld (held_of s.held u) y)
    → In x (items_of t (without_tx tx (site_after ds).held)) → IsHeld (held_of (without_held s.held tx) t) x
without_has s tx ds t x m among = by (same_tx t tx) refl
  where
    by : (b : Bool) → same_tx t tx ≡ b → IsHeld (held_of (without_held s.held tx) t) x
    by true is =
        absurd (subst (λ (xs : List Item). In x xs) (items_of-dropped tx (site_after ds).held)
        (subst (λ (u : TxId). In x (items_of u (without_tx tx (site_after ds).held))) (same_tx_is t tx is) among))
    by false is =
        subst (λ (e : Held). IsHeld e x) (sym (held-without_other s.held tx t (other_tx_sym t tx is)))
        (m t x (subst (λ (xs : List Item). In x xs) (items_of-kept tx t (site_after ds).held is) among))

pub without_owns : (s : SiteState) (tx : TxId) (ds : List Deed) (t : TxId) (o : OwnLine)
    → ((u : TxId) (y : OwnLine) → In y (held_of s.held u).own → In (Own y) (items_of u (site_after ds).held))
    → In o (held_of (without_held s.held tx) t).own → In (Own o) (items_of t (without_tx tx (site_after ds).held))
without_owns s tx ds t o m among = by (same_tx t tx) refl
  where
    none : (e : Option Held) → e ≡ None → In o (unwrap_or e (record { tx = tx; locks = []; own = [] })).own → ⊥
    none None is h = h
    none (Some e) is h = let never : ⊥ = cc in never

    by : (b : Bool) → same_tx t tx ≡ b → In (Own o) (items_of t (without_tx tx (site_after ds).held))
    by true is =
        absurd (none (entry_of (without_held s.held tx) tx) (entry-without s.held tx)
        (subst (λ (u : TxId). In o (held_of (without_held s.held tx) u).own) (same_tx_is t tx is) among))
    by false is =
        subst (λ (xs : List Item). In (Own o) xs) (sym (items_of-kept tx t (site_after ds).held is))
        (m t o (subst (λ (e : Held). In o e.own) (held-without_other s.held tx t (other_tx_sym t tx is)) among))

module _ (decl : Declaration) (acts : List Act) (net : Net) (a : ℕ) (run : IsRun decl acts)
    (m : Mirrors decl (state acts) net) (site : is_site decl a ≡ true) (up : net.up a ≡ true) where
  -- the site with its clock
  abbrev pub at_clock : ℕ → SiteState
  at_clock clock = record (net.sites a) { clock = clock }

  -- where the machine does nothing
  pub stands : (clock : ℕ) (move : SiteMove) → (net.sites a).clock ≤ clock → move.site ≡ at_clock clock
      → move.turn.write ≡ None
      → ((p : Posting) → In p move.turn.sends → Backed decl (state acts) net.mail a p.to p.message)
      → Continues decl acts (after_site net a move)
  stands clock move more same unwritten turn = record {
    more = [];
    refines = record {
      run = run;
      agrees = site_goes decl (state acts) (state acts) net a move m site up (record {
        later = same_state (state acts);
        keeps = keeps_same (state acts);
        records = refl;
        placed_at = m.placed;
        kept =
            subst (λ (o : Option Record). KeptMirrors decl (kept_by (net.records a ++ option_to_list o))
            (state acts).status ((state acts).life a) ((state acts).deeds a)) (sym unwritten)
            (subst (λ (rs : List Record). KeptMirrors decl (kept_by rs) (state acts).status ((state acts).life a)
            ((state acts).deeds a)) (sym (append-nil (net.records a))) (m.kept a site));
        alike =
            subst (λ (o : Option Record). IsKeptBy move.site (kept_by (net.records a ++ option_to_list o)))
            (sym unwritten)
            (subst (λ (rs : List Record). IsKeptBy move.site (kept_by rs)) (sym (append-nil (net.records a)))
            (subst (λ (s : SiteState). IsKeptBy s (kept_by (net.records a))) (sym same)
            (record {
              began = (m.alike a site up).began;
              recorded = (m.alike a site up).recorded;
              promises = (m.alike a site up).promises;
            })));
        here =
            subst (λ (s : SiteState). SiteMirrors decl s ((state acts).deeds a) ((state acts).life a)) (sym same)
            (clock_mirrors decl ((state acts).life a) (net.sites a) ((state acts).deeds a) clock more
            (m.sites a site up));
        there = λ b other. refl;
        alive = λ b other. refl;
        holders = λ t held. m.holders a t site up (subst (λ (s : SiteState). is_held s.held t ≡ true) same held);
        turn = turn;
      });
    };
  }

  -- one answer and no more
  pub says : (clock from number : ℕ) (answer : Answer) → (net.sites a).clock ≤ clock
      → Backed decl (state acts) net.mail a from (messages.Answer number answer)
      → Continues decl acts (after_site net a (moved (at_clock clock) (answers_with from number answer)))
  says clock from number answer more backed =
      stands clock (moved (at_clock clock) (answers_with from number answer)) more refl refl
      (one_answer decl (state acts) net.mail a from number answer backed)

  -- the machine's site grants, and so does this one
  pub grants_it : (clock from number : ℕ) (tx : TxId) (epoch named : ℕ) (want : Want) → IsGrantable want
      → (x : SiteGrant) → x.life ≡ (net.sites a).life → x.clock ≡ clock → (now : SiteState)
      → IsKeptBy now (kept_by (net.records a))
      → IsRun decl (Grant (grant_of decl (state acts) a clock tx (items_wanted want) (view_in want)) ∷ acts)
      → (state acts).status tx ≢ NotBegun → IsMessage net.mail number a (messages.Request tx epoch named want)
      → ((named ≡ 0) ⊎ (named ≡ (net.sites a).life))
      → SiteMirrors decl now ((state acts).deeds a ++ Grants tx (items_wanted want) (view_in want) ∷ [])
      ((state acts).life a)
      → ((t : TxId) → is_held now.held t ≡ true → (state acts).status t ≢ NotBegun)
      → IsAscending x.log → ((l : Line) → In l x.log → In l (site_after ((state acts).deeds a)).volatile)
      → ((object inv : ℕ) → want ≡ Read (first_read object inv) → (l : Line) → In l x.log → l.object ≡ object)
      → ((object inv : ℕ) → want ≡ Read (first_read object inv) → (l : Line)
      → In l (site_after ((state acts).deeds a)).volatile
      → l.object ≡ object → In l x.log)
      → Continues decl acts
      (after_site net a
      (moved now (answers_with from number (answers.Granted x))))
  grants_it clock from number tx epoch named want asks x life_is at_clock_is now alike going born request lived here
      holders sorted lines
      shown whole = record {
        more = Grant g ∷ [];
        refines = record {
          run = going;
          agrees =
              site_goes decl w v net a
              (moved now (answers_with from number (answers.Granted x)))
              m site up (record {
                later =
                    record {
                      born = λ t h. h;
                      epoch = λ t h. refl;
                      asked = λ t h. h;
                      counted = λ x h asked. h;
                      granted = λ x h. inr h;
                      votes = λ x h. h;
                      verdicts = λ t h. h;
                      appends = λ s h. h;
                      snapshots = λ s h. h;
                      decided = λ d h. h;
                    };
                keeps =
                    λ c. record {
                      status = λ t h. refl;
                      epoch = λ t h. refl;
                      executed = λ t h. refl;
                      chosen = λ t h. refl;
                      clock = refl;
                      counted = λ x its h. h;
                      more = λ x h. h;
                      votes = λ x h. h;
                      appends = λ x h. h;
                    };
                records = refl;
                placed_at =
                    λ x among.
                    elim among [
                      | inl same ↦ subst (λ (y : Granted). is_site decl y.site ≡ true) (sym same) site
                      | inr old ↦ m.placed x
                          old
                    ];
                kept =
                    subst (λ (ds : List Deed). KeptMirrors decl (kept_by (net.records a ++ [])) w.status (w.life a) ds)
                    (sym (put_here w.deeds a (w.deeds a ++ Grants tx (items_wanted want) (view_in want) ∷ [])))
                    (subst (λ (rs : List Record). KeptMirrors decl (kept_by rs) w.status (w.life a)
                    (w.deeds a ++ Grants tx (items_wanted want) (view_in want) ∷ [])) (sym (append-nil (net.records a)))
                    (kept_same decl (kept_by (net.records a)) w.status (w.life a) (w.deeds a)
                    (Grants tx (items_wanted want) (view_in want))
                    (leaves_epoch (w.deeds a) (Grants tx (items_wanted want) (view_in want)) tt) (m.kept a site) refl
                    refl
                    (λ x never. absurd never)));
                alike =
                    subst (λ (rs : List Record). IsKeptBy now (kept_by rs)) (sym (append-nil (net.records a))) alike;
                here =
                    subst (λ (ds : List Deed). SiteMirrors decl now ds (w.life a))
                    (sym (put_here w.deeds a (w.deeds a ++ Grants tx (items_wanted want) (view_in want) ∷ []))) here;
                there = λ b other. put_other w.deeds a _ b other;
                alive = λ b other. refl;
                holders = holders;
                turn = one_answer decl v net.mail a from number
                    (answers.Granted x) (record {
                      tx = tx;
                      want = want;
                      begun = born;
                      epoch = epoch;
                      named = named;
                      request = request;
                      lived = subst (λ (n : ℕ). (named ≡ 0) ⊎ (named ≡ n)) (sym life_is) lived;
                      grant =
                          record {
                            grant = g;
                            given = inl refl;
                            its = refl;
                            by = refl;
                            place = site;
                            epoch_is = refl;
                            life_is = sym (m.sites a site up).life ∙ sym life_is;
                            some = subst (λ (n : ℕ). 0 < n) (sym life_is) (m.sites a site up).some;
                            clock_is = sym at_clock_is;
                            asks = asks;
                            items_are = refl;
                            sorted = sorted;
                            lines = lines;
                            shown = shown;
                            whole = whole;
                          };
                    });
              });
        };
      }
    where
      w : State
      w = state acts

      g : Granted
      g = grant_of decl (state acts) a clock tx (items_wanted want) (view_in want)

      v : State
      v = after_act (state acts) (Grant (grant_of decl (state acts) a clock tx (items_wanted want) (view_in want)))
