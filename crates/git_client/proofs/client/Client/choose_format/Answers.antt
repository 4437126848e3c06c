use Rattle.std.proofs.Common.{◌≡◌, true, ap, cond, refl, sym, ◌∙◌}
use Rattle.git_client.specs.Machine.Client.{caps_of, format_of, phase_of}
use Rattle.git_client.specs.Machine.Choosing.{format_by, is_advertising, may_choose}
use Rattle.git_client.proofs.Chosen.{chooses}
use Rattle.git_client.proofs.client.Client.choose_format.Goals as goal

pub returns-then-is_advertising : goal.returns-then-is_advertising
returns-then-is_advertising g c =
    let old = c.args.self.now in
    let advertising : is_advertising (phase_of old) ≡ true = sym c.is_advertising.ensures ∙ c.if-is_advertising.true in
    let may : may_choose old ≡ true = search (c.if-self.true, advertising) in
    record {
      format = c.format_by-self.ensures ∙ sym (ap (λ b. cond b (format_by (caps_of old)) (format_of old)) may);
      carries = chooses old _ (record { ending = refl; agent = refl; reader = refl; phase = refl; caps = refl; request = refl }) advertising;
      stays = λ never. let e = sym may ∙ never in absurd (cc);
      any = refl;
      ending = refl;
      agent = refl;
      reader = refl;
      phase = refl;
      caps = refl;
      request = refl;
      content = refl;
    }
