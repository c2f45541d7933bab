-- The administrator falls and rises: a decision whose record stays is made as he rises, and nothing runs then.
use Rattle.std.specs.Prelude.{MatchOption, option_to_list}
use Rattle.std.proofs.Common.{◌≡◌, ℕ, true, false, inl, inr, List, [], ◌∷◌, ◌++◌, Option, Some, None, refl, sym, ap}
use Rattle.std.proofs.Common.{◌∙◌, subst}
use Rattle.std.proofs.lemmas.List.{append-nil}
use Rattle.qc_entry.specs.declared.line.Line.{Line}
use Rattle.qc_entry.specs.declared.record.Commit.{Commit as CommitRecord}
use Rattle.qc_decl.specs.declared.declaration.Declaration.{Declaration}
use Rattle.qc_decl.specs.Vocabulary.{administrator}
use Rattle.qc_msg.specs.declared.record.Record.{Record}
use Rattle.qc_msg.specs.declared.record.Record.TheVariants as records
use Rattle.theory_machine.specs.Vocabulary.{Act, Decide, IsRun, put, state}
use Rattle.theory_machine.proofs.Names.{put_here}
use Rattle.qc_msg.specs.declared.payload.EpochStart.{EpochStart}
use Rattle.qc_recover.specs.Admins.{keeps, kept_by}
use Rattle.laws_refinement.specs.Vocabulary.{IsDeciding, IsGivenBack, IsPendingRule, Net, Refines, RulesMirror}
use Rattle.laws_refinement.specs.Vocabulary.{after_admin_rise, after_fall, after_vain_rise, commits_in}
use Rattle.laws_refinement.proofs.AdminStands.{rule_more}
use Rattle.laws_refinement.proofs.MessagesStay.{keeps_same, same_state}
use Rattle.laws_refinement.proofs.Machine.{put_other}
use Rattle.laws_refinement.proofs.Nets.{AtAdmin, admin_net}
use Rattle.laws_refinement.proofs.PendingCases.{admin_pends}

module _ (decl : Declaration) (net : Net) (h : Refines decl net) where
  me : ℕ
  me = administrator decl

  stays : AtAdmin decl (state h.acts) (state h.acts)
  stays = record {
    later = same_state (state h.acts);
    keeps = keeps_same (state h.acts);
    records = refl;
    granted = refl;
    deeds = refl;
    lives = refl;
  }

  -- he falls, and what he ran is given up: nothing of it is anywhere else
  pub admin_falls : (pending : Option Record) → IsPendingRule decl (state h.acts) pending
      → Refines decl (after_fall net (administrator decl) pending [])
  admin_falls pending backed = record {
    acts = h.acts;
    run = h.run;
    agrees = admin_net decl (state h.acts) (state h.acts) net
        (after_fall net (administrator decl) pending []) [] h.agrees
        (record {
          sites = λ b other. refl;
          clients = λ b other. refl;
          up = λ b other. put_other net.up (administrator decl) false b other;
          records = λ b other. refl;
          pending = λ b other. put_other net.pending (administrator decl) pending b other;
          admin = λ other. absurd (other refl);
          mail = refl;
        })
        refl stays
        (record {
          mirrors = λ u. absurd (let e : put net.up (administrator decl) false (administrator decl) ≡ false =
              put_here net.up (administrator decl) false in let never : ⊥ = cc in never);
          rules = h.agrees.rules;
          decides = λ d. subst (λ (o : Option Record). IsPendingRule decl (state h.acts) o)
              (sym (put_here net.pending (administrator decl) pending)) backed;
        })
        (λ p never. absurd never);
  }

  module _ (back : Option Record) (down : net.up (administrator decl) ≡ false)
      (given : IsGivenBack net (administrator decl) back) where
    backed : IsPendingRule decl (state h.acts) back
    backed = elim given [
      | inl none ↦ subst (λ (o : Option Record). IsPendingRule decl (state h.acts) o) (sym none) tt
      | inr same ↦ subst (λ (o : Option Record). IsPendingRule decl (state h.acts) o) (sym same) (h.agrees.decides down)
    ]

    -- the machine once it is known whether the pending record stands
    record Stood (k : Option EpochStart) : Type 0 where
      acts : List Act
      run : IsRun decl acts
      at : AtAdmin decl (state h.acts) (state acts)
      rules : RulesMirror decl (state acts) k

    decides_act : (epoch clock : ℕ) (lines : List Line) → IsDeciding decl (state h.acts) epoch clock lines
        → Stood (Some (record { epoch = epoch; clock = clock; lines = lines }))
    decides_act epoch clock lines d = record {
      acts = Decide d.decision ∷ h.acts;
      run = (d.may, h.run);
      at = record {
        later = record {
          born = λ t x. x;
          epoch = λ t x. refl;
          asked = λ t x. x;
          counted = λ g x asked. x;
          granted = λ g x. x;
          votes = λ y x. x;
          verdicts = λ t x. x;
          appends = λ s x. x;
          snapshots = λ s x. x;
          decided = λ y x. inr x;
        };
        keeps = λ c. record {
          status = λ t x. refl;
          epoch = λ t x. refl;
          executed = λ t x. refl;
          chosen = λ t x. refl;
          clock = refl;
          counted = λ g its x. x;
          more = λ g x. x;
          votes = λ y x. x;
          appends = λ y x. x;
        };
        records = refl;
        granted = refl;
        deeds = refl;
        lives = refl;
      };
      rules = record {
        planned = d.planned;
        decided = (
          refl,
          record {
            decision = d.decision;
            decided = inl refl;
            epoch_is = d.epoch_is;
            clock_is = d.clock_is;
            log_is = d.log_is;
            sorted = d.sorted;
            planned = d.planned;
          },
        );
      };
    }

    as_it_was : Stood (kept_by (net.records (administrator decl)))
    as_it_was = record { acts = h.acts; run = h.run; at = stays; rules = h.agrees.rules }

    stood : Stood (kept_by (net.records (administrator decl) ++ option_to_list back))
    stood = by back backed
      where
        one : (r : Record) → IsPendingRule decl (state h.acts) (Some r)
            → Stood (keeps (kept_by (net.records (administrator decl))) r)
        one r =
            admin_pends decl (state h.acts)
            (λ (o : Option Record). MatchOption o (Unit {0})
            (λ (x : Record). Stood (keeps (kept_by (net.records (administrator decl))) x)))
            tt as_it_was (λ start b. decides_act start.epoch start.clock start.lines b) (Some r)

        by : (o : Option Record) → IsPendingRule decl (state h.acts) o
            → Stood (kept_by (net.records (administrator decl) ++ option_to_list o))
        by None b = subst (λ (rs : List Record). Stood (kept_by rs))
            (sym (append-nil (net.records (administrator decl)))) as_it_was
        by (Some r) b =
            subst (λ (k : Option EpochStart). Stood k) (sym (rule_more (net.records (administrator decl)) r))
            (one r b)

    -- no commit record is his
    unwritten : (o : Option Record) → IsPendingRule decl (state h.acts) o → commits_in o ≡ []
    unwritten = admin_pends decl (state h.acts) (λ (o : Option Record). commits_in o ≡ []) refl refl (λ start b. refl)

    -- he rises, and falls before the record of that stands
    pub admin_rises_in_vain : Refines decl (after_vain_rise net (administrator decl) back)
    admin_rises_in_vain = record {
      acts = stood.acts;
      run = stood.run;
      agrees = admin_net decl (state h.acts) (state stood.acts) net
          (after_vain_rise net (administrator decl) back) [] h.agrees
          (record {
            sites = λ b other. refl;
            clients = λ b other. refl;
            up = λ b other. refl;
            records = λ b other. put_other net.records (administrator decl)
                (net.records (administrator decl) ++ option_to_list back) b other;
            pending = λ b other. put_other net.pending (administrator decl) (Some records.Life) b other;
            admin = λ other. absurd (other refl);
            mail = sym (append-nil net.mail);
          })
          (ap (λ (cs : List CommitRecord). net.written ++ cs) (unwritten back backed) ∙ append-nil net.written) stood.at
          (record {
            mirrors = λ u. absurd (let e : net.up (administrator decl) ≡ false = down in let never : ⊥ = cc in never);
            rules = subst (λ (rs : List Record). RulesMirror decl (state stood.acts) (kept_by rs))
                (sym (put_here net.records (administrator decl)
                (net.records (administrator decl) ++ option_to_list back))) stood.rules;
            decides = λ d. subst (λ (o : Option Record). IsPendingRule decl (state stood.acts) o)
                (sym (put_here net.pending (administrator decl) (Some records.Life))) tt;
          })
          (λ p never. absurd never);
    }

    -- he rises
    pub admin_rises_up : Refines decl (after_admin_rise decl net back)
    admin_rises_up = record {
      acts = stood.acts;
      run = stood.run;
      agrees = admin_net decl (state h.acts) (state stood.acts) net (after_admin_rise decl net back) [] h.agrees
          (record {
            sites = λ b other. refl;
            clients = λ b other. refl;
            up = λ b other. put_other net.up (administrator decl) true b other;
            records = λ b other. put_other net.records (administrator decl)
                ((net.records (administrator decl) ++ option_to_list back) ++ records.Life ∷ []) b other;
            pending = λ b other. put_other net.pending (administrator decl) None b other;
            admin = λ other. absurd (other refl);
            mail = sym (append-nil net.mail);
          })
          refl stood.at
          (record {
            mirrors = λ u. record { planned = then.planned; decided = then.decided; doing = tt };
            rules = subst (λ (rs : List Record). RulesMirror decl (state stood.acts) (kept_by rs))
                (sym (put_here net.records (administrator decl)
                ((net.records (administrator decl) ++ option_to_list back) ++ records.Life ∷ []))) then;
            decides = λ d. absurd (let e : put net.up (administrator decl) true (administrator decl) ≡ true =
                put_here net.up (administrator decl) true in let never : ⊥ = cc in never);
          })
          (λ p never. absurd never);
    }
      where
        then : RulesMirror decl (state stood.acts)
            (kept_by ((net.records (administrator decl) ++ option_to_list back) ++ records.Life ∷ []))
        then = subst (λ (k : Option EpochStart). RulesMirror decl (state stood.acts) k)
            (sym (rule_more (net.records (administrator decl) ++ option_to_list back) records.Life)) stood.rules
