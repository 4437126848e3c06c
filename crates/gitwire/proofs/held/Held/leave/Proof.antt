-- `leave` takes apart what owns nothing but its allocator.
use mathlib.Core.Path.{refl, sym, subst}
use mathlib.Core.List.{List, [], ◌∷◌, ◌++◌}
use lib.Dec.{T, lit<}
use seplogic.Ra.Ura.{Ura}
use mir.Val.{Val, vunit, vstruct, vnil, vcons, of_list, has_ty, WT}
use mir.Syntax.{Ty, ty_ptr, ty_struct, tcons, tnil}
use base.Logic.{SProp, ent}
use base.Fml.{ftrue, fsep}
use prog.Memory.{Memory}
use prog.Routine.{Routine}
use prog.Wp.{WpFn, Tables}
use types.Logic.{Logic, sem}
use contract.Monad.{Fun, fact}
use contract.Running.{tables, tables_of}
use sound.WpLaws.{WpFn-mono}
use types.Kit.{Item, ‵, raw, ◌⊛◌, ◌$◌, ◌∵◌, !, qed, by, move, keep, drop, join, split, fsplit, fjoin, fpick, feq_l, feq_i, suffices, done}
use types.Part.{whole, sub}
use types.Run.{stop, fld, of_opd, unit_lit, returns, enter}
use types.ByLocal.{alloc_all, pass_all, free_all, look_at, get_in, sets}
use denote.Exit.{yes}
use denote.RawPtr.{Ptr, block_ptr, null_ptr, ptr_val}
use denote.Steps.{heard, nothing}
use denote.Triple.Spec.{triple_of}
use denote.Triple.Table.{entered}
use denote.Triple.Walked.{Stays, stay_dropped, walk_of, ends_at, Goes-dropped, walk_Meets}
use Rattle.std.proofs.alloc.Calls.{α, Fits, handle_tells}
use Rattle.std_alloc.proofs.BoxSteps.Form.{box_typed}
use Rattle.std_alloc.proofs.ResultValues.{and_tt}
use Rattle.std.specs.Prelude.{◌≡◌, Option, None}
use Rattle.std.specs.Global.{Global}
use Rattle.std_heap.specs.contracts.Global as Heap
use Rattle.gitwire.specs.declared.machine.Machine.{Machine}
use Rattle.gitwire.specs.declared.held.Held.{Held}
use Rattle.gitwire.specs.contracts.held.Held as Held-row
use Rattle.gitwire.proofs.AsBox.{E, FromHeld as From}
use Rattle.gitwire.specs.contracts.held.Held.leave as F
use Rattle.gitwire.specs.contracts.held.Held.leave.Key.{name as #self}
use Rattle.gitwire.proofs.held.Held.leave.Statement as stated
use Rattle.gitwire.proofs.held.Held.leave.Code as code

abbrev stayed : Stays (F.ended).signature.params (F.ended).kept
stayed = (stay_dropped From yes, tt)

abbrev word : Ptr → Val → Val
word at hv = vstruct (vcons (ptr_val at) (vcons hv vnil))

abbrev held_ty : Ty
held_ty = ty_struct (Held-row.the_type).name (tcons ty_ptr (tcons (α E.al) tnil))

at_typed : (at : Ptr) → T (has_ty ty_ptr (ptr_val at)) × WT (ptr_val at)
at_typed null_ptr = (tt, record { fits = lit< tt })
at_typed (block_ptr b o) = (tt, tt)

held_typed : (at : Ptr) (hv : Val) → Fits E.al hv → T (has_ty held_ty (word at hv)) × WT (word at hv)
held_typed null_ptr hv fa = (and_tt (has_ty (α E.al) hv) fa.0, (record { fits = lit< tt }, (fa.1, tt)))
held_typed (block_ptr b o) hv fa = box_typed E hv b o fa

module _ {M : Type 1} {𝓤 : Ura M} (𝓛 : Logic 𝓤) (at_mem : Memory → SProp 𝓤) (run : Routine → Fun 𝓤) (𝓣 : Tables 𝓤 𝓛.H) where
  open 𝓛 use {H}

  abbrev bound : Held → List Val → (walk_of 𝓛 F.ended stayed (F.clauses 𝓛 at_mem run)).Ghost
  bound h vs = ((tt, tt, tt, (h, tt), (vs, tt)), tt)

  walk : (at : Ptr) (alloc : Global) (held : Option Machine) (vs : List Val) → held ≡ None
      → ent 𝓤 (sem 𝓛 (Held-row.the_row.own_val (record { at = at; alloc = alloc; machine = held }) vs)) (WpFn 𝓤 H 𝓣.C 𝓣.Λ code.function (vs ++ [])
      ((walk_of 𝓛 F.ended stayed (F.clauses 𝓛 at_mem run)).post (bound (record { at = at; alloc = alloc; machine = held }) vs)))
  walk at alloc held vs none =
      let h : Held = record { at = at; alloc = alloc; machine = held } in
      let z = bound h vs in
      let Post = (walk_of 𝓛 F.ended stayed (F.clauses 𝓛 at_mem run)).post z in
      qed 𝓛 (‵ ((Held-row.the_row).own_val h vs) ∷ []) ∵
      fsplit ! $ fpick ! (λ vss. fsplit ! $ feq_l ! (λ ev. fsplit ! $ feq_l ! (λ ep. fsplit ! $ handle_tells E.al ! alloc vss.1.0 (λ hv ea fa. keep ! (0 ∷ []) $
      let w = word at hv in
      let ws : vs ≡ w ∷ [] = subst (λ (us : List Val). vs ≡ vstruct (of_list (ptr_val at ∷ (us ++ []))) ∷ []) ea (subst (λ (ps : List Val). vs ≡ vstruct
      (of_list (ps ++ (vss.1.0 ++ []))) ∷ []) ep ev) in
      let Γ : List (Item 𝓤) = ‵ ((Heap.the_row).own_val alloc (hv ∷ [])) ∷ [] in
      by ! (subst (λ (us : List Val). ent 𝓤 (types.Kit.⋆ 𝓛 Γ) (WpFn 𝓤 H 𝓣.C 𝓣.Λ code.function (us ++ []) Post)) (sym ws)
      (qed 𝓛 Γ ∵ enter ! 𝓣.C 𝓣.Λ code.function (w ∷ []) _ $ alloc_all ! (λ ls. pass_all ! refl (held_typed at hv fa, tt) $
      sets ! (of_opd ! (get_in ! (fld ! refl (stop !)) (sub ! 0 refl (whole !)))) refl (at_typed at) $ sets ! (of_opd ! (get_in ! (fld ! refl (stop !))
      (sub ! 1 refl (whole !)))) refl fa $
      sets ! (of_opd ! (unit_lit !)) refl (tt, tt) $ returns ! (look_at ! 0 refl) $ free_all ! refl $
      drop ! $ feq_i ! (List Val) (vunit ∷ []) (vunit ∷ []) refl $
      suffices ! _ (ends_at 𝓛 F.ended stayed (F.clauses 𝓛 at_mem run) z vunit tt (tt, tt) (tt, tt)) $
      nothing ! $ move ! (1 ∷ []) $ nothing ! $ nothing ! $ fjoin ! $ join ! $ nothing ! $ join ! $ done !)))))))

  entry : (z : (walk_of 𝓛 F.ended stayed (F.clauses 𝓛 at_mem run)).Ghost)
      → ent 𝓤 ((walk_of 𝓛 F.ended stayed (F.clauses 𝓛 at_mem run)).pre z) (WpFn 𝓤 H 𝓣.C 𝓣.Λ code.function (z.0.4.0 ++ []) ((walk_of 𝓛 F.ended stayed
      (F.clauses 𝓛 at_mem run)).post z))
  entry z =
      qed 𝓛 ((‵ ftrue ⊛ ‵ (fsep ((Held-row.the_row).own_val z.0.3.0 z.0.4.0) ftrue)) ∷ raw (fact 𝓤 (z.0.3.0.machine ≡ None)) ∷ []) ∵
      move ! (1 ∷ []) $ heard ! _ (λ none. split ! $ drop ! $ fsplit ! $ keep ! (0 ∷ []) $ by ! (walk z.0.3.0.at z.0.3.0.alloc z.0.3.0.machine z.0.4.0 none))

pub leave_spec : {M : Type 1} → stated.statement M
unfolding tables_of
leave_spec 𝓤 𝓛 𝓜 𝓡 wired =
    let 𝓣 : Tables 𝓤 𝓛.H = tables_of 𝓤 𝓛.H 𝓜 (tables 𝓤 𝓛.H 𝓜 𝓡 𝓡.env) in
    entered 𝓤 𝓛.H (triple_of 𝓛 F.signature (F.spec 𝓛 𝓜.mem 𝓡.returns)) 𝓣.C 𝓣.Λ #self code.function (code.unfolded 𝓤 𝓛.H 𝓜 𝓡 wired)
    (walk_Meets 𝓛 F.ended stayed (Goes-dropped 𝓛 0 From yes (λ κs x f. refl), tt) (F.clauses 𝓛 𝓜.mem 𝓡.returns) (WpFn 𝓤 𝓛.H 𝓣.C 𝓣.Λ code.function)
    (WpFn-mono 𝓤 𝓛.H 𝓛.laws 𝓣 code.function)
    (entry 𝓛 𝓜.mem 𝓡.returns 𝓣))
