-- A turn in a cell: what its calls ask, and what is known of the process once the turn was posted.
use Rattle.std.proofs.Common.{[], ◌≡◌, ℕ, ◌+◌, ◌^◌, ◌<◌, ◌≤◌, Bool, false, List, ◌∷◌, ◌++◌, length, Option, Some, None}
use Rattle.std.proofs.Common.{refl, sym, ap, ◌∙◌, subst, arith, append_assoc, length-append}
use Rattle.qc_core.specs.declared.actor.Actor.{Actor}
use Rattle.qc_core.specs.declared.actor.Actor.TheVariants as actors_of
use Rattle.qc_core.specs.Vocabulary.{ActorFits, ActorMove, AsksFew, IsLawfulWithFalls, actor_after, actor_sent}
use Rattle.qc_core.specs.Vocabulary.{actor_takes, moved}
use Rattle.qc_core.proofs.Written.{after_written}
use Rattle.qc_epoch.specs.Vocabulary.{most_asks}
use Rattle.qc_decl.specs.Vocabulary.{IsAccepted, actors, most_steps}
use Rattle.qc_decl.specs.declared.declaration.Declaration.{Declaration}
use Rattle.qc_msg.specs.declared.record.Record.{Record}
use Rattle.qc_msg.specs.declared.step.Input.{Input}
use Rattle.qc_msg.specs.declared.step.Step.{Step}
use Rattle.qc_msg.specs.declared.turn.Appended.{Appended}
use Rattle.qc_msg.specs.declared.turn.Appended.TheVariants.{Done}
use Rattle.qc_msg.specs.declared.turn.Turn.{Turn}
use Rattle.qc_msg.specs.Vocabulary.{Deed, Entry, HasRecord, MayEnd, Takes as TakesInput, by, deeds, deeds_as, mail}
use Rattle.qc_msg.specs.Vocabulary.{marked, posted_as, step_of}
use Rattle.qc_msg.proofs.GrownMail.{length-mail}
use Rattle.qc_pass.specs.declared.token.Pass.{Pass}
use Rattle.qc_pass.specs.Vocabulary.{number, seen}
use Rattle.qc_process.specs.Vocabulary.{Goes, HasFewRecords, IsProcess, IsReadable, IsStored, IsUp, IsWritable}
use Rattle.qc_process.specs.Vocabulary.{MayWrite, ProcessView, StoreView}
use Rattle.qc_script.specs.Vocabulary.{IsScriptFor}
use Rattle.qc_script.specs.declared.script.Script.{Script}
use Rattle.laws_bounds.proofs.TurnsSpelled.{turn_spelled}
use Rattle.qc_fabric.specs.Vocabulary.{GoesToActors, Posts, Sees, Takes, most_history}
use Rattle.qc_fabric.proofs.Limits.{none_reached}
use Rattle.qc_node.specs.Vocabulary.{IsServed, fits_of}
use Rattle.qc_node.proofs.Turned.{same_deeds, same_record, turned}
use Rattle.qc_node.proofs.Turns.{asks_few, fits, numbered, readable, short_failed, short_turn, turn_is_lawful}
use Rattle.qc_node.proofs.ServedStores.{took_goes, saw_goes, stored_over_input, stored_over_others, few_open}
use Rattle.qc_core.proofs.ActorLaws.{input}

-- an actor took an input: what its calls ask

module _ (tells : Bool) (decl : Declaration) (script : Script) (accepted : IsAccepted decl)
    (sound : IsScriptFor decl script) (p q : Pass Step) (g : Input) (low : number p < actors decl)
    (took : Takes (IsLawfulWithFalls decl) (fits_of decl) decl script p q g) where
  short_before : length (seen p ++ took.others) < most_steps
  short_before = (none_reached (seen p ++ took.others) took.below).steps

  done_before : List Deed
  done_before = deeds (number p) [] (seen p)

  pub short_after : length (seen q) ≤ most_history + 1
  short_after =
      let front : length (seen p ++ took.others) ≤ most_history = took.few in
      omega (
        arith,
        front,
        ap (λ (l : List Entry). length l) took.seen_is,
        length-append (seen p ++ took.others) (marked (number p) (step_of g) ∷ []),
      )

  module _ (pr : ProcessView) (known : IsProcess tells decl (number p) (seen p) pr) where
    pub input_fits : ActorFits pr.actor
    input_fits =
        subst ActorFits
        (ap (λ (ds : List Deed). (actor_after decl (number p) ds).actor) took.does_before ∙ sym known.actor_is)
        (fits decl script accepted (number p) (seen p ++ took.others) took.run_before.0 took.run_before.1 short_before
        took.is_closed)

    pub input_readable : IsReadable g
    input_readable =
        readable decl script accepted (number p) (seen p ++ took.others) took.run_before.0 took.run_before.1
        short_before g took.is_ready

    -- it acted

    module _ (after : Actor) (turn : Turn) (acted : actor_takes decl pr.actor g ≡ moved after turn) where
      move_is : actor_after decl (number p) (deeds (number p) [] (seen q)) ≡ moved after turn
      move_is =
          ap (actor_after decl (number p)) took.does
          ∙ (input decl (number p) (deeds (number p) [] (seen p)) g
          ∙ (ap (λ (v : Actor). actor_takes decl v g) (sym known.actor_is) ∙ acted))

      after_is : (actor_after decl (number p) (deeds (number p) [] (seen q))).actor ≡ after
      after_is = ap (λ (m : ActorMove). m.actor) move_is

      turn_is : (actor_after decl (number p) (deeds (number p) [] (seen q))).turn ≡ turn
      turn_is = ap (λ (m : ActorMove). m.turn) move_is

      pub written_turn : turn.append ≡ Done
      written_turn =
          ap (λ (t : Turn). t.append) (sym turn_is) ∙ after_written decl (number p) (deeds (number p) [] (seen q))

      -- whatever becomes of its record
      lawful_end : (end : Appended) → MayEnd turn.write end
          → IsLawfulWithFalls decl (number p) (deeds (number p) [] (seen q)) (record turn { append = end })
      lawful_end end may =
          turn_is_lawful decl (number p) (deeds (number p) [] (seen q)) (record turn { append = end }) low
          (turn_is ∙ sym (same_record turn written_turn)) may

      pub lawful : IsLawfulWithFalls decl (number p) (deeds (number p) [] (seen q)) (record turn { append = Done })
      lawful = lawful_end Done tt

      writable : (r : Record) → turn.write ≡ Some r → IsWritable r
      writable r is =
          let both = turn_spelled decl script accepted sound (fits_of decl) (λ a rs fit. fit) (seen q) took.run.0
          took.run.1
          (omega (arith, short_after)) (number p) (record turn { append = Done }) lawful r is in
          record { legal = both.0; short = both.1 }

      -- what its store is asked, of a store that is as it was
      pub may_write : (s : StoreView) → s ≡ pr.store → (HasRecord turn.write → IsUp s) → MayWrite turn.write s
      may_write s same up = by turn.write refl
        where
          short_seen : length (seen p) ≤ most_history + 1
          short_seen =
              let front : length (seen p ++ took.others) ≤ most_history = took.few in
              omega (arith, front, length-append (seen p) took.others)

          few : HasFewRecords s
          few =
              subst HasFewRecords (sym same) (few_open (seen p) pr.store tells decl (number p) short_seen known.stored)

          by : (w : Option Record) → turn.write ≡ w → MayWrite w s
          by None is = tt
          by (Some r) is = (writable r is, up (subst HasRecord (sym is) tt), few)

      pub to_actors : (end : Appended) → GoesToActors (record turn { append = end })
      to_actors end = record {
        sends =
            (short_turn decl script accepted (number p) (seen q) took.run.0 took.run.1 took.is_open
            (record turn { append = Done }) lawful).receivers;
        failed_sends =
            (short_failed decl script accepted (number p) (seen q) took.run.0 took.run.1 took.is_open
            (record turn { append = Done }) lawful).receivers;
      }

      pub few_asked : AsksFew after
      few_asked =
          subst AsksFew after_is
          (asks_few decl script accepted (number p) (seen q) took.run.0 took.run.1 took.is_open
          (record turn { append = Done }) lawful)

      -- the store, when the input was taken

      pub stored_then : (s : StoreView) → s.told ≡ pr.store.told → s.fuse ≡ pr.store.fuse → s.journal ≡ pr.store.journal
          → IsStored tells decl (number p) (seen q) s
      stored_then s told fuse journal =
          stored_over_input tells decl (number p) (seen p) (seen q) g pr.store s told fuse journal
          (took_goes decl script p q g took) known.stored

      -- it made room, and posted

      module _ (p2 : Pass Step) (saw : Sees q p2) where
        number_is : number p2 ≡ number p
        number_is = saw.pass.number_is ∙ took.pass.number_is

        deeds_then : deeds (number p2) [] (seen p2) ≡ deeds (number p) [] (seen q)
        deeds_then =
            ap (λ (n : ℕ). deeds n [] (seen p2)) saw.pass.number_is
            ∙ (saw.does ∙ ap (λ (n : ℕ). deeds n [] (seen q)) took.pass.number_is)

        pub lawful_now : (end : Appended) → MayEnd turn.write end
            → IsLawfulWithFalls decl (number p2) (deeds (number p2) [] (seen p2)) (record turn { append = end })
        lawful_now end may =
            subst (λ (n : ℕ). IsLawfulWithFalls decl n (deeds (number p2) [] (seen p2)) (record turn { append = end }))
            (sym number_is)
            (subst (λ (ds : List Deed). IsLawfulWithFalls decl (number p) ds (record turn { append = end }))
            (sym deeds_then)
            (lawful_end end may))

        pub stored_now : (s : StoreView) → IsStored tells decl (number p) (seen q) s
            → IsStored tells decl (number p2) (seen p2) s
        stored_now s is =
            subst (λ (n : ℕ). IsStored tells decl n (seen p2) s) (sym number_is)
            (stored_over_others tells decl (number p) (seen q) (seen p2) s s refl refl refl
            (subst (λ (n : ℕ). Goes n (seen q) [] (seen p2)) took.pass.number_is (saw_goes q p2 saw)) is)

        module _ (r : Pass Step) (end : Appended) (first : ℕ)
            (posts : Posts (IsLawfulWithFalls decl) (fits_of decl) decl script p2 r
            (record turn { append = end }) first)
          where
            abbrev ended : Turn
            ended = record turn { append = end }

            pub posts_go : Goes (number p2) (seen p2) (posted_as end first ended) (seen r)
            posts_go = record { others = posts.others; not_own = posts.not_own; now_is = posts.seen_is }

            pub numbers_left : first + most_asks < 2 ^ 32
            numbers_left =
                let less : length (mail (seen p2 ++ posts.others)) ≤ length (seen p2 ++ posts.others) =
                length-mail (seen p2 ++ posts.others) in
                omega (arith, posts.first_is, less, posts.few)

            -- what the actor is then
            actor_then : (v : Actor) → (end ≡ Done → v ≡ after) → ((end ≡ Done → ⊥) → v ≡ actors_of.Down)
                → (actor_after decl (number p) (deeds (number p) [] (seen q) ++ deeds_as end first ended)).actor
                ≡ actor_sent v first
            actor_then v kept down =
                ap (λ (l : List Deed). (actor_after decl (number p) (deeds (number p) [] (seen q) ++ l)).actor)
                (same_deeds end first turn)
                ∙ turned decl (number p) (deeds (number p) [] (seen q)) turn first after after_is
                (numbered decl script accepted (number p) (seen q) took.run.0 took.run.1 took.is_open
                (record turn { append = Done }) lawful first)
                end v kept down

            deeds_last : deeds (number r) [] (seen r) ≡ deeds (number p) [] (seen q) ++ deeds_as end first ended
            deeds_last =
                ap (λ (n : ℕ). deeds n [] (seen r)) posts.pass.number_is
                ∙ (posts.does ∙ ap (λ (ds : List Deed). ds ++ deeds_as end first ended) deeds_then)

            number_last : number r ≡ number p
            number_last = posts.pass.number_is ∙ number_is

            -- the process, with its store as it was written to, and what the actor is then
            pub process_last : (v : Actor) (s : StoreView) → (end ≡ Done → v ≡ after)
                → ((end ≡ Done → ⊥) → v ≡ actors_of.Down) → IsStored tells decl (number p2) (seen r) s
                → IsProcess tells decl (number r) (seen r)
                (record { number = pr.number; actor = actor_sent v first; store = s })
            process_last v s kept down is = record {
              number_is = known.number_is ∙ sym number_last;
              actor_is =
                  sym (ap (λ (n : ℕ). (actor_after decl n (deeds (number r) [] (seen r))).actor) number_last
                  ∙
                  (ap (λ (ds : List Deed). (actor_after decl (number p) ds).actor) deeds_last
                  ∙ actor_then v kept down));
              stored = subst (λ (n : ℕ). IsStored tells decl n (seen r) s) (sym posts.pass.number_is) is;
            }

            turn_here : (actor_takes decl (actor_after decl (number p) (deeds (number p) [] (seen p))).actor g).turn
                ≡ turn
            turn_here =
                ap (λ (v : Actor). (actor_takes decl v g).turn) (sym known.actor_is)
                ∙ ap (λ (m : ActorMove). m.turn) acted

            pub served : (b c : Bool) (x : ProcessView) → c ≡ false
                → IsServed decl (record { number = number p; seen = seen p; given_up = b; process = pr })
                (record { number = number r; seen = seen r; given_up = c; process = x })
            served b c x up = record {
              begins = (
                ((took.others ++ marked (number p) (step_of g) ∷ []) ++ saw.others)
                    ++ (posts.others ++ by (number p2) (posted_as end first ended)),
                seen_last,
              );
              given = g;
              end = end;
              first = first;
              does =
                  deeds_last
                  ∙ (ap (λ (ds : List Deed). ds ++ deeds_as end first ended) took.does
                  ∙ (ap (λ (ds : List Deed). (deeds (number p) [] (seen p) ++ TakesInput g ∷ []) ++ ds)
                  (same_deeds end first turn)
                  ∙ ap (λ (t : Turn). (deeds (number p) [] (seen p) ++ TakesInput g ∷ []) ++ deeds_as end first t)
                  (sym turn_here)));
              up = up;
            }
              where
                four : (a b c d e f : List Entry)
                    → (((a ++ b) ++ c) ++ d) ++ (e ++ f) ≡ a ++ (((b ++ c) ++ d) ++ (e ++ f))
                four a b c d e f = simp append_assoc

                seen_last : seen p ++ (((took.others ++ marked (number p) (step_of g) ∷ []) ++ saw.others)
                    ++ (posts.others ++ by (number p2) (posted_as end first ended))) ≡ seen r
                seen_last =
                    sym (posts.seen_is
                    ∙ (append_assoc (seen p2) posts.others (by (number p2) (posted_as end first ended))
                    ∙ (ap (λ (l : List Entry). l ++ (posts.others ++ by (number p2) (posted_as end first ended)))
                    (saw.seen_is ∙ ap (λ (l : List Entry). l ++ saw.others) took.seen_is)
                    ∙ four (seen p) took.others (marked (number p) (step_of g) ∷ []) saw.others posts.others
                    (by (number p2) (posted_as end first ended)))))
