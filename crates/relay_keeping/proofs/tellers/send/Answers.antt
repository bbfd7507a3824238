use Rattle.std.proofs.Common.{[], ◌++◌, refl, sym, ap, ◌∙◌}
use Rattle.relay_keeping.specs.Histories.{names_in, places_in}
use Rattle.relay_keeping.specs.Tellers.{said_at}
use Rattle.relay_keeping.specs.declared.told.Told.TheVariants.{Put}
use Rattle.relay_keeping.proofs.Messages.{sent_names, sent_places}
use Rattle.relay_keeping.proofs.tellers.send.Goals as goal

pub returns-in-Ok-clause-places : goal.returns-in-Ok-clause-places
returns-in-Ok-clause-places g c =
    sent_places c.in-Some.end.told c.tell.new.self.told (Put c.replace-places.result) c.replace-places.new.dest.items c.args.batch.now.items c.in-Ok.ensures.told (ap (λ v. v.items) c.replace-places.ensures.after ∙ c.new.ensures.items)
    (ap (λ v. v.items ++ []) c.replace-places.ensures.value) ∙ sym (ap (λ e. places_in (said_at e) ++ c.args.batch.now.items) c.in-Some.is)

pub returns-in-Ok-clause-names : goal.returns-in-Ok-clause-names
returns-in-Ok-clause-names g c = sent_names c.in-Some.end.told c.tell.new.self.told (Put c.replace-places.result) c.in-Ok.ensures.told refl ∙ sym (ap (λ e. names_in (said_at e)) c.in-Some.is)
