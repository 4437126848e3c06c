-- Calls of `feed_band`, one after another, are joined.
use Rattle.std.proofs.Common.{◌≡◌, Bool, true, false, cond, ℕ, List, [], ◌∷◌, ◌++◌, take, ap, sym, ◌∙◌, refl, subst, append_assoc}
use Rattle.std.proofs.lemmas.List.{append-nil}
use Rattle.git_pkt.specs.Packets.{Pkt, flush, delim, resp_end, payload, seen}
use Rattle.git_pkt.specs.Passed.{OnBand, is_on_band, others, passed_by, passed_by_all, passed_by_rest}
use Rattle.git_pkt.specs.Splits.{Given}
use Rattle.git_pkt.specs.Machine.PacketReader.{Reads}
use Rattle.git_pkt.specs.Machine.BandReader.{part_of, announced_by}
use Rattle.git_pkt.specs.Machine.BandCalls.{AllGoes, AreFed, BandCall, parts_of_all, used_by}
use Rattle.git_pkt.specs.declared.reader.BandGot.{BandGot}
use Rattle.git_pkt.specs.declared.reader.BandGot.TheVariants.{More, Part, Packet, Failed}
use Rattle.git_pkt.specs.declared.reader.PacketReader.{PacketReader}
use Rattle.git_pkt.proofs.BandCarries.{none_in_payload, others-append, passed_by_all-append}

unbanded_passes : (p : Pkt) → is_on_band p ≡ false → passed_by p ≡ []
unbanded_passes flush e = refl
unbanded_passes delim e = refl
unbanded_passes resp_end e = refl
unbanded_passes (payload bytes) e = none_in_payload bytes e

one_is_none : (g : Given) (b : Bool) → cond b [] (g ∷ []) ≡ g ∷ [] → b ≡ false
one_is_none g false e = refl
one_is_none g true e = absurd (cc)

-- no bytes pass of packets that are returned
announced_passes : (got : BandGot) → others (announced_by got) ≡ announced_by got → passed_by_all (announced_by got) ≡ []
announced_passes More e = refl
announced_passes (Part band bytes) e = refl
announced_passes (Packet p offset) e =
    let g : Given = record { packet = seen p; offset = offset } in
    append-nil (passed_by (seen p)) ∙ unbanded_passes (seen p) (one_is_none g (is_on_band (seen p)) e)
announced_passes (Failed f) e = refl

pub all_goes : (calls : List BandCall) (old new : PacketReader) (start : ℕ) (bytes : List ℕ) (given : List Given) (rest : List ℕ)
    → AreFed old calls new → Reads old start bytes given rest → AllGoes start bytes given rest calls new
all_goes [] old new start bytes given rest same r = record {
  more = [];
  later = rest;
  reads =
      subst (λ (reader : PacketReader). Reads reader start (bytes ++ []) (given ++ []) rest) same
      (subst (λ (l : List ℕ). Reads old start l (given ++ []) rest) (sym (append-nil bytes))
      (subst (λ (gs : List Given). Reads old start bytes gs rest) (sym (append-nil given)) r));
  announced = refl;
  joins = sym (append-nil (passed_by_rest rest));
}
all_goes (call ∷ calls) old new start bytes given rest (mid, feeds, fed) r =
    let u = take call.fed.used call.chunk in
    let announced = announced_by call.fed.got in
    let first = feeds.reads start bytes given rest r in
    let next = all_goes calls mid new start (bytes ++ u) (given ++ (first.passed ++ announced)) first.later fed first.reads in
    let none : passed_by_all announced ≡ [] = announced_passes call.fed.got first.free in
    let front : passed_by_all (first.passed ++ announced) ≡ passed_by_all first.passed =
    passed_by_all-append first.passed announced ∙ ap (λ (l : List OnBand). passed_by_all first.passed ++ l) none ∙ append-nil (passed_by_all first.passed) in
    record {
      more = (first.passed ++ announced) ++ next.more;
      later = next.later;
      reads =
          subst (λ (l : List ℕ). Reads new start l (given ++ ((first.passed ++ announced) ++ next.more)) next.later) (append_assoc bytes u (used_by calls))
          (subst (λ (gs : List Given). Reads new start ((bytes ++ u) ++ used_by calls) gs next.later)
          (append_assoc given (first.passed ++ announced) next.more) next.reads);
      announced =
          others-append (first.passed ++ announced) next.more
          ∙ ap (λ (l : List Given). l ++ others next.more) (others-append first.passed announced)
          ∙ ap (λ (l : List Given). (l ++ others announced) ++ others next.more) first.on_bands
          ∙ ap (λ (l : List Given). l ++ others next.more) first.free
          ∙ ap (λ (l : List Given). announced ++ l) next.announced;
      joins =
          ap (λ (l : List OnBand). l ++ passed_by_rest next.later) (passed_by_all-append (first.passed ++ announced) next.more)
          ∙ ap (λ (l : List OnBand). (l ++ passed_by_all next.more) ++ passed_by_rest next.later) front
          ∙ append_assoc (passed_by_all first.passed) (passed_by_all next.more) (passed_by_rest next.later)
          ∙ ap (λ (l : List OnBand). passed_by_all first.passed ++ l) next.joins
          ∙ sym (append_assoc (passed_by_all first.passed) (passed_by_rest first.later) (parts_of_all calls))
          ∙ ap (λ (l : List OnBand). l ++ parts_of_all calls) first.joins
          ∙ append_assoc (passed_by_rest rest) (part_of call.fed.got) (parts_of_all calls);
    }
