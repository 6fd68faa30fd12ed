-- The hall in a store: by its measures, and of a store that has passed the store check.
use Rattle.model.specs.Halls.{Hall}
use Rattle.model.specs.Store.{hall_in, decode}
use Rattle.store.specs.declared.layout.Store.{Store}
use Rattle.store.specs.declared.opened.Opened.{Opened}

abbrev pub held : Store → Hall
held s = hall_in s.measures s.bytes.now

abbrev pub stored : Opened → Hall
stored o = decode o.store.bytes.now
