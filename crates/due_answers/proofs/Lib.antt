mod UnitLaws
mod DueLaws
