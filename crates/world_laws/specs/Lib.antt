pub mod SceneRows
