pub mod StandinLaws
